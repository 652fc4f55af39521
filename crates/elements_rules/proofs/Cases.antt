-- Document 01's cases P1 to P12 hold, and the small reads that are refused. Assumes nothing.
use mathlib.Core.Path.{refl}
use lib.ListN.{drop}
use Rattle.header.specs.Vint.{octet_bits, bits, one_more, width_of, big_endian_from, big_endian, of_width, vint_of}
use Rattle.header.specs.Header.{sized, named, header_of}
use Rattle.header.specs.Promise.{header_reply}
use Rattle.sizes.specs.Unknown.{unknown}
use Rattle.kinds.specs.Elements.{elements}
use Rattle.kinds.specs.Kinds.{kind_in, member, keeps, demoted, kind_under}
use Rattle.utf8.specs.Utf8.{utf8_char, behind, any_of, goes_on, utf8}
use Rattle.bodies_rules.specs.Numbers.{signed_of}
use Rattle.bodies_rules.specs.Bodies.{body_of}
use Rattle.bodies_rules.specs.Promise.{body_reply}
use Rattle.elements_rules.specs.Forest.{span, count, join}
use Rattle.elements_rules.specs.Reading.{refuse_if, full, siblings, element, master_body}
use Rattle.elements_rules.specs.Rows.{rows, flat, flatten}
use Rattle.elements_rules.specs.Promise.{is_table, allowed, filled, read_of, table_of}
use Rattle.elements_rules.specs.Cases.{cases, Hold}

pub cases_hold : Hold cases
unfolding octet_bits bits one_more width_of big_endian_from big_endian of_width vint_of sized named header_of header_reply
    elements kind_in member keeps demoted kind_under behind utf8_char any_of goes_on utf8 signed_of body_of body_reply
    span count join refuse_if full siblings element master_body rows flat flatten is_table allowed filled read_of table_of
    unknown
cases_hold =
    let live_cases : Hold (drop 30 cases) = (refl, (refl, (refl, (refl, (refl, (refl, (refl, tt))))))) in
    let broken : Hold (drop 19 cases) =
    (refl, (refl, (refl, (refl, (refl, (refl, (refl, (refl, (refl, (refl, (refl, live_cases))))))))))) in
    let read_cases : Hold (drop 16 cases) = ((refl, refl), ((refl, refl), ((refl, refl), broken))) in
    let body_cases : Hold (drop 10 cases) = (refl, (refl, (refl, (refl, (refl, (refl, read_cases)))))) in
    (refl, (refl, (refl, (refl, (refl, (refl, (refl, (refl, (refl, (refl, body_cases))))))))))
