-- The worked calls of `open` hold. Assumes nothing.
use mathlib.Core.Path.{refl}
use lib.ListN.{drop}
use Rattle.header.specs.Vint.{octet_bits, bits, one_more, width_of, big_endian_from, big_endian, of_width, vint_of}
use Rattle.header.specs.Header.{sized, named, header_of}
use Rattle.header.specs.Reads.{header_read, header_at}
use Rattle.kinds.specs.Elements.{elements}
use Rattle.kinds.specs.Kinds.{member, kind_in, keeps, demoted, kind_under}
use Rattle.utf8.specs.Utf8.{utf8_char, behind, any_of, goes_on, utf8}
use Rattle.bodies_rules.specs.Bodies.{body_of}
use Rattle.elements_rules.specs.Forest.{span, count, join}
use Rattle.elements_rules.specs.Reading.{refuse_if, full, siblings, element, master_body}
use Rattle.elements_rules.specs.Promise.{is_table, allowed, filled, read_of}
use Rattle.seekhead_rules.specs.Seeks.{last_four, with_members, entry_of, entries}
use Rattle.seekhead_rules.specs.Table.{later, latest_from}
use Rattle.seekchain_rules.specs.Heads.{sought, last_head, next_head, chain}
use Rattle.seekchain_rules.specs.Lookup.{part_at}
use Rattle.sizes.specs.Unknown.{unknown}
use Rattle.walks_rules.specs.Step.{ends_before, is_past, ended_by, barred_step, child_at}
use Rattle.walks_rules.specs.Walk.{walk}
use Rattle.walks_rules.specs.Endings.{ended_at, within, end_from, pass_over}
use Rattle.segments_rules.specs.Segment.{segment_of, stretch_of, overruns}
use Rattle.open_rules.specs.Parts.{which_of}
use Rattle.open_rules.specs.Tables.{part_read}
use Rattle.open_rules.specs.Opening.{sought_from, by_heads_all, visit, whole_of}
use Rattle.open_rules.specs.Promise.{are_allowed, open_of}
use Rattle.open_rules.specs.Cases.{cases, Hold}

pub cases_hold : Hold cases
unfolding octet_bits bits one_more width_of big_endian_from big_endian of_width vint_of sized named
    header_of header_read header_at
    elements member kind_in keeps demoted kind_under utf8_char behind any_of goes_on utf8 body_of
    span count join refuse_if full siblings element master_body is_table allowed filled read_of
    last_four with_members entry_of entries later latest_from sought last_head next_head chain part_at
    ends_before is_past ended_by barred_step child_at walk ended_at within end_from pass_over unknown segment_of
    stretch_of
    overruns
    which_of part_read sought_from by_heads_all visit whole_of are_allowed open_of
cases_hold =
    let live_mode : Hold (drop 25 cases) = (refl, (refl, (refl, (refl, (refl, tt))))) in
    let at_once : Hold (drop 17 cases) = (refl, (refl, (refl, (refl, (refl, (refl, (refl, (refl, live_mode)))))))) in
    let in_turn : Hold (drop 10 cases) = (refl, (refl, (refl, (refl, (refl, (refl, (refl, at_once))))))) in
    (refl, (refl, (refl, (refl, (refl, (refl, (refl, (refl, (refl, (refl, in_turn))))))))))
