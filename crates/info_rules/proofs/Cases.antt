-- The worked records of Info hold. Assumes nothing.
use mathlib.Core.Path.{refl}
use lib.ListN.{drop}
use lib.Ieee.{of_bits}
use Rattle.header.specs.Vint.{octet_bits, bits, one_more, width_of, big_endian_from, big_endian, of_width, vint_of}
use Rattle.header.specs.Header.{sized, named, header_of}
use Rattle.header.specs.Reads.{header_read, header_at}
use Rattle.sizes.specs.Unknown.{unknown}
use Rattle.kinds.specs.Elements.{elements}
use Rattle.kinds.specs.Kinds.{kind_in, keeps, demoted, kind_under, member}
use Rattle.utf8.specs.Utf8.{utf8_char, behind, any_of, goes_on, utf8}
use Rattle.bodies_rules.specs.Numbers.{signed_of, float_of}
use Rattle.bodies_rules.specs.Bodies.{body_of}
use Rattle.elements_rules.specs.Forest.{span, count, join}
use Rattle.elements_rules.specs.Reading.{refuse_if, full, siblings, element, master_body}
use Rattle.elements_rules.specs.Rows.{rows, nth}
use Rattle.elements_rules.specs.Promise.{is_table, allowed, filled, read_of}
use Rattle.fields_rules.specs.Children.{deeper, subtree, fits, children_from, last_from, nth_of}
use Rattle.fields_rules.specs.Fields.{number_of, content_of, real_of, date_of, count_of}
use Rattle.locate_rules.specs.Steps.{reached}
use Rattle.locate_rules.specs.Asked.{asked}
use Rattle.locate_rules.specs.Cases.{Hold}
use Rattle.info_rules.specs.Records.{info_of, family_fields}
use Rattle.info_rules.specs.Cases.{cases}

pub cases_hold : Hold cases
unfolding octet_bits bits one_more width_of big_endian_from big_endian of_width vint_of sized named header_of header_read unknown
    header_at elements kind_in keeps demoted kind_under utf8_char member behind any_of goes_on utf8 body_of signed_of float_of
    of_bits span count join refuse_if full siblings element master_body rows is_table allowed filled read_of nth
    deeper subtree fits children_from last_from nth_of number_of content_of real_of date_of count_of
    reached asked info_of family_fields
cases_hold =
    let last : Hold (drop 14 cases) = (refl, (refl, (refl, (refl, (refl, (refl, tt)))))) in
    let later : Hold (drop 7 cases) = (refl, (refl, (refl, (refl, (refl, (refl, (refl, last))))))) in
    (refl, (refl, (refl, (refl, (refl, (refl, (refl, later)))))))
