-- The worked records of Chapters hold. Assumes nothing.
use mathlib.Core.Path.{refl}
use lib.ListN.{drop}
use Rattle.header.specs.Vint.{octet_bits, bits, one_more, width_of, big_endian_from, big_endian, of_width, vint_of}
use Rattle.header.specs.Header.{sized, named, header_of}
use Rattle.header.specs.Reads.{header_read, header_at}
use Rattle.sizes.specs.Unknown.{unknown}
use Rattle.kinds.specs.Elements.{elements}
use Rattle.kinds.specs.Kinds.{kind_in, keeps, demoted, kind_under, member}
use Rattle.utf8.specs.Utf8.{utf8_char, behind, any_of, goes_on, utf8}
use Rattle.bodies_rules.specs.Bodies.{body_of}
use Rattle.elements_rules.specs.Forest.{span, count, join}
use Rattle.elements_rules.specs.Reading.{refuse_if, full, siblings, element, master_body}
use Rattle.elements_rules.specs.Rows.{rows, nth}
use Rattle.elements_rules.specs.Promise.{is_table, allowed, filled, read_of}
use Rattle.fields_rules.specs.Children.{deeper, subtree, fits, children_from, last_from, nth_of}
use Rattle.fields_rules.specs.Fields.{number_of, flag_of, content_of, language_of, count_of}
use Rattle.locate_rules.specs.Steps.{reached}
use Rattle.locate_rules.specs.Asked.{asked}
use Rattle.locate_rules.specs.Cases.{Hold}
use Rattle.chapters.specs.Records.{edition_of, chapter_of, display_of}
use Rattle.chapters.specs.Cases.{cases}

pub cases_hold : Hold cases
unfolding octet_bits bits one_more width_of big_endian_from big_endian of_width vint_of sized named header_of header_read unknown
    header_at elements kind_in keeps demoted kind_under utf8_char member behind any_of goes_on utf8 body_of
    span count join refuse_if full siblings element master_body rows is_table allowed filled read_of nth
    deeper subtree fits children_from last_from nth_of number_of flag_of content_of language_of count_of
    reached asked edition_of chapter_of display_of
cases_hold =
    let later : Hold (drop 4 cases) = (refl, (refl, (refl, (refl, (refl, (refl, tt)))))) in
    (refl, (refl, (refl, (refl, later))))
