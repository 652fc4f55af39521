-- The worked listings hold. Assumes nothing.
use mathlib.Core.Path.{refl}
use Rattle.header.specs.Vint.{octet_bits, bits, one_more, width_of, big_endian_from, big_endian, of_width, vint_of}
use Rattle.header.specs.Header.{sized, named, header_of}
use Rattle.header.specs.Reads.{header_read, header_at}
use Rattle.kinds.specs.Elements.{elements}
use Rattle.kinds.specs.Kinds.{kind_in, keeps, demoted, kind_under}
use Rattle.kinds.specs.Kinds.{member}
use Rattle.utf8.specs.Utf8.{utf8_char, behind, any_of, goes_on, utf8}
use Rattle.bodies_rules.specs.Bodies.{body_of}
use Rattle.elements_rules.specs.Forest.{span, count, join}
use Rattle.elements_rules.specs.Reading.{refuse_if, full, siblings, element, master_body}
use Rattle.elements_rules.specs.Rows.{rows}
use Rattle.elements_rules.specs.Promise.{is_table, allowed, filled}
use Rattle.seekhead_rules.specs.Seeks.{last_four, with_members, entry_of, entries}
use Rattle.seekhead_rules.specs.Table.{later, latest_from}
use Rattle.seekchain_rules.specs.Heads.{sought, last_head, next_head, chain}
use Rattle.seekchain_rules.specs.Lookup.{part_at, by_heads}
use Rattle.sizes.specs.Unknown.{unknown}
use Rattle.walks_rules.specs.Step.{is_past, ended_by, barred_step, child_at}
use Rattle.walks_rules.specs.Walk.{walk}
use Rattle.walks_rules.specs.Endings.{pass_over}
use Rattle.segments_rules.specs.Segment.{segment_of, stretch_of, overruns, visit, segment_children, lookup_of}
use Rattle.search_rules.specs.Part.{parent_of, search_of}
use Rattle.pages.specs.Text.{glyph, numeral}
use Rattle.rowtext.specs.Lines.{kind_word, row_place, row_line, row_lines}
use Rattle.listing_rules.specs.Listing.{place_text, search_text, part_lines, all_parts, listing_of}
use Rattle.listing_rules.specs.Cases.{cases, Hold}

pub cases_hold : Hold cases
unfolding octet_bits bits one_more width_of big_endian_from big_endian of_width vint_of sized named header_of header_read
    header_at
    elements kind_in keeps demoted kind_under utf8_char behind any_of goes_on utf8 body_of
    span count join refuse_if full siblings element master_body rows is_table allowed filled
    last_four with_members entry_of entries later latest_from member sought last_head next_head chain part_at by_heads
    unknown is_past ended_by barred_step child_at walk pass_over segment_of stretch_of overruns visit segment_children lookup_of
    parent_of search_of
    glyph numeral kind_word row_place row_line row_lines place_text search_text part_lines all_parts listing_of
cases_hold = (refl, (refl, (refl, tt)))
