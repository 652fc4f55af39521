-- The worked questions hold. Assumes nothing.
use mathlib.Core.Path.{refl}
use lib.ListN.{drop}
use Rattle.header.specs.Vint.{octet_bits, bits, one_more, width_of, big_endian_from, big_endian, of_width, vint_of}
use Rattle.header.specs.Header.{sized, named, header_of}
use Rattle.sizes.specs.Unknown.{unknown}
use Rattle.kinds.specs.Elements.{elements}
use Rattle.kinds.specs.Kinds.{kind_in, member, keeps, demoted, kind_under}
use Rattle.elements_rules.specs.Promise.{is_table, allowed}
use Rattle.owner_rules.specs.Owner.{owner_at, owner_of}
use Rattle.owner_rules.specs.Cases.{Hold, cases}

pub cases_hold : Hold cases
unfolding octet_bits bits one_more width_of big_endian_from big_endian of_width vint_of sized named header_of elements kind_in
    member keeps demoted kind_under unknown is_table allowed owner_at owner_of
cases_hold =
    let live_cases : Hold (drop 19 cases)
    = (refl, (refl, (refl, (refl, (refl, (refl, (refl, (refl, (refl, (refl, (refl, (refl, (refl, tt))))))))))))) in
    let others : Hold (drop 10 cases)
    = (refl, (refl, (refl, (refl, (refl, (refl, (refl, (refl, (refl, live_cases))))))))) in
    (refl, (refl, (refl, (refl, (refl, (refl, (refl, (refl, (refl, (refl, others))))))))))
