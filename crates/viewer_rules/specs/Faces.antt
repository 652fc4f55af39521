-- How a reply crosses to C: `refused` is 0 and the values cross under their own names; or it is the number, with the
-- address and the id that 8 carries, and every other number is 0. A range is refused with 14 alone, and has no address.
use Rattle.refusals.specs.Causes.{cause_number, cause_id}
use Rattle.refusals.specs.Reply.{Reply, accepted, refusal}
use Rattle.bodies_rules.specs.declared.body.Range.{Range}
use Rattle.places_rules.specs.Whose.{Whose, by_header, by_payload}
use Rattle.owner_rules.specs.declared.owner.Owner.TheVariants.{Header, Payload}
use Rattle.search_rules.specs.Part.{PartTold, found_part, absent_part}
use Rattle.viewer_rules.specs.declared.opened.UzFound.{UzFound}
use Rattle.viewer_rules.specs.declared.opened.UzOpened.{UzOpened}
use Rattle.viewer_rules.specs.declared.owned.UzOwned.{UzOwned}
use Rattle.viewer_rules.specs.declared.part.UzPart.{UzPart}
use Rattle.viewer_rules.specs.declared.range.UzRange.{UzRange}
use Rattle.viewer_rules.specs.declared.whose.UzPlace.{UzPlace}
use Rattle.std.specs.Prelude.{Result, Ok, Err}
use Rattle.owner_rules.specs.declared.owner.Owner.{Owner}
use Rattle.open_rules.specs.declared.parts.Parts.{Parts}
use Rattle.refusals.specs.declared.refusal.Refusal.{Refusal}
use Rattle.std.specs.Prelude.{ℕ}
use Rattle.std.specs.Prelude.{Option, Some, None}
use Rattle.search_rules.specs.declared.part.Part.{Part}

abbrev pub part_face : Reply PartTold → UzPart
part_face (accepted (found_part at size rows heads)) =
    record { refused = 0; id = 0; refused_at = 0; found = 1; at = at; size = size; rows = rows; heads = heads }
part_face (accepted (absent_part heads)) =
    record { refused = 0; id = 0; refused_at = 0; found = 0; at = 0; size = 0; rows = 0; heads = heads }
part_face (refusal e) =
    record {
      refused = cause_number e.cause;
      id = cause_id e.cause;
      refused_at = e.address;
      found = 0;
      at = 0;
      size = 0;
      rows = 0;
      heads = 0;
    }

abbrev pub range_face : Reply Range → UzRange
range_face (accepted r) = record { refused = 0; at = r.at; length = r.length }
range_face (refusal e) = record { refused = cause_number e.cause; at = 0; length = 0 }

abbrev pub place_face : Reply Whose → UzPlace
place_face (accepted (by_header row rows)) =
    record { refused = 0; refused_at = 0; row = row; in_payload = 0; rows = rows }
place_face (accepted (by_payload row rows)) =
    record { refused = 0; refused_at = 0; row = row; in_payload = 1; rows = rows }
place_face (refusal e) =
    record { refused = cause_number e.cause; refused_at = e.address; row = 0; in_payload = 0; rows = 0 }

abbrev pub owned_face : Result Owner Refusal → UzOwned
owned_face (Ok (Header address depth)) =
    record { refused = 0; refused_at = 0; at = address; in_payload = 0; depth = depth }
owned_face (Ok (Payload address depth)) =
    record { refused = 0; refused_at = 0; at = address; in_payload = 1; depth = depth }
owned_face (Err e) =
    record { refused = cause_number e.cause; refused_at = e.address; at = 0; in_payload = 0; depth = 0 }

-- One of the five parts: an absent one is zeros.
abbrev pub found_face : Option Part → UzFound
found_face None = record { found = 0; at = 0; size = 0; rows = 0 }
found_face (Some p) = record { found = 1; at = p.at; size = p.size; rows = p.rows }

abbrev pub opened_face : Result (Parts × ℕ) Refusal → UzOpened
opened_face (Ok (parts, heads)) = record {
  refused = 0;
  id = 0;
  refused_at = 0;
  heads = heads;
  info = found_face parts.info;
  tracks = found_face parts.tracks;
  attachments = found_face parts.attachments;
  chapters = found_face parts.chapters;
  tags = found_face parts.tags;
}
opened_face (Err e) = record {
  refused = cause_number e.cause;
  id = cause_id e.cause;
  refused_at = e.address;
  heads = 0;
  info = found_face None;
  tracks = found_face None;
  attachments = found_face None;
  chapters = found_face None;
  tags = found_face None;
}
