-- Number and address of a refusal cross together, and it is honest (`PartTellsWhere`, `PlaceTellsWhere`,
-- `OwnerTellsWhere`, `ChainTellsWhere`, `OpenTellsWhere`). Assumes nothing.
use Prim.Native.Nat.{ℕ, ◌/◌}
use mathlib.Core.Path.{◌≡◌, refl, sym, subst}
use mathlib.Core.List.{List}
use mathlib.Core.Logic.{inl}
use mathlib.Core.Bool.{Bool}
use native.Mathlib.Omega.{arith}
use lib.ListN.{length}
use Rattle.refusals.specs.Causes.{cause_number}
use Rattle.refusals.specs.Refusals.{bad_argument}
use Rattle.refusals.specs.Reply.{Reply, accepted, refusal}
use Rattle.refusals.specs.declared.refusal.Refusal.{Refusal}
use Rattle.refusals.proofs.Listed.{listed}
use Rattle.elements_rules.specs.Rows.{width}
use Rattle.elements_rules.specs.Promise.{keeping}
use Rattle.elements_rules.specs.Faults.{Errand, Honest, callers, Comes}
use Rattle.elements_rules.specs.Reading.{Outcome}
use Rattle.elements_rules.specs.Reading.{refused as refused_reading}
use Rattle.places_rules.specs.Whose.{Whose, by_header, by_payload, asked_of, whose_of}
use Rattle.places_rules.proofs.Honest.{places_honest}
use Rattle.owner_rules.specs.Owner.{Side, header, payload, Owned, owner_of, chain_of}
use Rattle.owner_rules.specs.Promise.{owner_is, owner_reply}
use Rattle.owner_rules.specs.Way.{OwnerComes, HonestOwner}
use Rattle.owner_rules.proofs.Sound.{owner_honest, chain_honest}
use Rattle.search_rules.specs.Part.{PartTold, found_part, absent_part, refused, search_of, reply_of}
use Rattle.search_rules.specs.Faults.{SearchComes}
use Rattle.search_rules.proofs.Faults.{search_honest}
use Rattle.open_rules.specs.Tables.{sizes_of}
use Rattle.open_rules.specs.Opening.{refused as refused_opening}
use Rattle.open_rules.specs.Promise.{open_of}
use Rattle.open_rules.specs.Promise.{reply_of as open_reply}
use Rattle.open_rules.specs.Faults.{OpenComes}
use Rattle.open_rules.proofs.Faults.{open_honest}
use Rattle.viewer_rules.specs.Modes.{chosen_mode, in_mode}
use Rattle.viewer_rules.specs.Faces.{part_face, place_face, owned_face, opened_face}
use Rattle.viewer_rules.specs.Theorems.{TellsWhere, PartTellsWhere, PlaceTellsWhere, OwnerTellsWhere}
use Rattle.viewer_rules.specs.Theorems.{ChainTellsWhere, OpenTellsWhere, ComesIn}
use Rattle.viewer_rules.specs.declared.opened.UzOpened.{UzOpened}
use Rattle.viewer_rules.specs.declared.owned.UzOwned.{UzOwned}
use Rattle.viewer_rules.specs.declared.part.UzPart.{UzPart}
use Rattle.viewer_rules.specs.declared.whose.UzPlace.{UzPlace}
use Rattle.std.proofs.Common.{Result, Option, Ok, Err, Some, None}
use Rattle.open_rules.specs.declared.parts.Parts.{Parts}

module _ (s : List ℕ) (Reached : ℕ → Errand → Type 0) where
  -- Without a refusal both are 0.
  fine : TellsWhere s Reached 0 0
  fine = record { broke = λ some. absurd (some refl); fine = λ z. refl }

  -- No refusal has the number 0.
  broke : (e : Refusal) → Honest s Reached e → TellsWhere s Reached (cause_number e.cause) e.address
  broke e h = record {
    broke = λ some. record { told = e; number = refl; address = refl; honest = h };
    fine = λ z. let l = (listed e).least in absurd (let y : ⊥ = omega arith in y);
  }

pub part_tells_where : PartTellsWhere
part_tells_where mode s part t r t' p =
    subst (λ (x : UzPart). TellsWhere s (There (chosen_mode mode)) x.refused x.refused_at) (sym p.reply)
    (by_mode (chosen_mode mode))
  where
    There : Option Bool → ℕ → Errand → Type 0
    There c = ComesIn c (λ live. SearchComes live s part (length t))

    by : (live : Bool) (x : Reply PartTold) → reply_of (search_of live s part (length t)) ≡ x
        → TellsWhere s (There (Some live)) (part_face x).refused (part_face x).refused_at
    by live (accepted (found_part at size rows heads)) k = fine s (There (Some live))
    by live (accepted (absent_part heads)) k = fine s (There (Some live))
    by live (refusal e) k =
        broke s (There (Some live)) e (search_honest live s part t e _ (record { reply = sym k; table = refl }))

    by_mode : (c : Option Bool)
        → TellsWhere s (There c)
        (part_face (reply_of (in_mode c (refused bad_argument) (λ live. search_of live s part (length t))))).refused
        (part_face (reply_of (in_mode c (refused bad_argument) (λ live. search_of live s part (length t))))).refused_at
    by_mode (Some live) = by live (reply_of (search_of live s part (length t))) refl
    by_mode None = broke s (There None) bad_argument (callers (inl refl) refl)

pub place_tells_where : PlaceTellsWhere
place_tells_where mode s start size parent x t r t' p =
    subst (λ (z : UzPlace). TellsWhere s (There (chosen_mode mode)) z.refused z.refused_at) (sym p.reply)
    (by_mode (chosen_mode mode))
  where
    There : Option Bool → ℕ → Errand → Type 0
    There c = ComesIn c (λ live. Comes s (keeping live) (length t / width) 0 parent start size 0)

    by : (live : Bool) (z : Reply Whose) → whose_of start x (asked_of live s start size parent x (length t)) ≡ z
        → TellsWhere s (There (Some live)) (place_face z).refused (place_face z).refused_at
    by live (accepted (by_header row rows)) k = fine s (There (Some live))
    by live (accepted (by_payload row rows)) k = fine s (There (Some live))
    by live (refusal e) k =
        broke s (There (Some live)) e
        (places_honest.owner live s start size parent x t e _ (record { reply = sym k; table = refl }))

    asked : Option Bool → Outcome
    asked c = in_mode c (refused_reading bad_argument) (λ live. asked_of live s start size parent x (length t))

    by_mode : (c : Option Bool)
        → TellsWhere s (There c) (place_face (whose_of start x (asked c))).refused
        (place_face (whose_of start x (asked c))).refused_at
    by_mode (Some live) = by live (whose_of start x (asked_of live s start size parent x (length t))) refl
    by_mode None = broke s (There None) bad_argument (callers (inl refl) refl)

-- Of an owner, with the chain or without: what is refused is honest.
module _ (s : List ℕ) (Reached : ℕ → Errand → Type 0) (reply : Reply Owned)
    (honest : (e : Refusal) → reply ≡ refusal e → Honest s Reached e)
  where
    owned_where : TellsWhere s Reached (owned_face (owner_reply reply)).refused
        (owned_face (owner_reply reply)).refused_at
    owned_where = by reply refl
      where
        by_side : (o : Owned) (p : Side)
            → TellsWhere s Reached (owned_face (owner_is p o.address (length o.masters))).refused
            (owned_face (owner_is p o.address (length o.masters))).refused_at
        by_side o header = fine s Reached
        by_side o payload = fine s Reached

        by : (z : Reply Owned) → reply ≡ z
            → TellsWhere s Reached (owned_face (owner_reply z)).refused (owned_face (owner_reply z)).refused_at
        by (accepted o) k = by_side o o.side
        by (refusal e) k = broke s Reached e (honest e k)

module _ (s : List ℕ) (start size parent x : ℕ) where
  abbrev There : Option Bool → ℕ → Errand → Type 0
  There c = ComesIn c (λ live. OwnerComes live s start size parent x)

  owned_in : (c : Option Bool) (call : Bool → Reply Owned)
      → ((live : Bool) (e : Refusal) → call live ≡ refusal e → HonestOwner live s start size parent x e)
      → TellsWhere s (There c) (owned_face (owner_reply (in_mode c (refusal bad_argument) call))).refused
      (owned_face (owner_reply (in_mode c (refusal bad_argument) call))).refused_at
  owned_in (Some live) call honest = owned_where s (There (Some live)) (call live) (honest live)
  owned_in None call honest = broke s (There None) bad_argument (callers (inl refl) refl)

pub owner_tells_where : OwnerTellsWhere
owner_tells_where mode s start size parent x r p =
    subst (λ (z : UzOwned).
    TellsWhere s (There s start size parent x (chosen_mode mode)) z.refused z.refused_at) (sym p.reply)
    (owned_in s start size parent x (chosen_mode mode) (λ live. owner_of live s start size parent x)
    (λ live. owner_honest live s start size parent x))

pub chain_tells_where : ChainTellsWhere
chain_tells_where mode s start size parent x t r t' p =
    subst (λ (z : UzOwned).
    TellsWhere s (There s start size parent x (chosen_mode mode)) z.refused z.refused_at) (sym p.reply)
    (owned_in s start size parent x (chosen_mode mode) (λ live. chain_of live s start size parent x (length t))
    (λ live. chain_honest live s start size parent x (length t)))

pub open_tells_where : OpenTellsWhere
open_tells_where mode s t r t' p =
    subst (λ (x : UzOpened). TellsWhere s (There (chosen_mode mode)) x.refused x.refused_at) (sym p.reply)
    (by_mode (chosen_mode mode))
  where
    There : Option Bool → ℕ → Errand → Type 0
    There c = ComesIn c (λ live. OpenComes live s (sizes_of t))

    by : (live : Bool) (x : Result (Parts × ℕ) Refusal) → open_reply (open_of live s (sizes_of t)) ≡ x
        → TellsWhere s (There (Some live)) (opened_face x).refused (opened_face x).refused_at
    by live (Ok (parts, heads)) k = fine s (There (Some live))
    by live (Err e) k =
        broke s (There (Some live)) e (open_honest live s t e _ (record { reply = sym k; tables = refl }))

    by_mode : (c : Option Bool)
        → TellsWhere s (There c)
        (opened_face (open_reply (in_mode c (refused_opening bad_argument) (λ live. open_of live s (sizes_of t))))).refused
        (opened_face (open_reply (in_mode c (refused_opening bad_argument) (λ live. open_of live s (sizes_of t))))).refused_at
    by_mode (Some live) = by live (open_reply (open_of live s (sizes_of t))) refl
    by_mode None = broke s (There None) bad_argument (callers (inl refl) refl)
