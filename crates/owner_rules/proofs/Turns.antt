-- One turn of the walk over plain values: what each test of the code leads to. Assumes nothing.
use Prim.Native.Nat.{ℕ, ◌+◌, ◌-◌, ◌^◌, ◌≤◌, ◌<◌}
use mathlib.Core.Path.{◌≡◌, sym, ap, ◌∙◌, subst}
use mathlib.Core.List.{List}
use mathlib.Core.Bool.{Bool}
use native.Mathlib.Omega.{arith}
use lib.ListN.{length}
use Rattle.refusals.specs.Refusals.{overrun, too_deep}
use Rattle.refusals.specs.Reply.{refusal}
use Rattle.refusals.specs.declared.refusal.Refusal.{Refusal}
use Rattle.header.specs.Promise.{most_bytes}
use Rattle.header.specs.Header.{heading}
use Rattle.header.specs.declared.cursor.Headed.{Headed}
use Rattle.header.proofs.Inside.{HeaderThere, header_there}
use Rattle.elements_rules.specs.Reading.{element_header, element_header_read, depths}
use Rattle.elements_rules.proofs.Parts.{step_read, step_refused}
use Rattle.owner_rules.specs.Owner.{header, payload}
use Rattle.owner_rules.specs.Way.{IsMaster}
use Rattle.owner_rules.specs.Contract.{linked, WalkMet}
use Rattle.owner_rules.specs.declared.owner.Owner.TheVariants.{Header, Payload}
use Rattle.owner_rules.proofs.Steps.{no_header_law}
use Rattle.owner_rules.proofs.Steps as steps
use Rattle.owner_rules.proofs.Walking.{Walking, walk_refused, walk_ends, walk_into, walk_past}
use Rattle.std.proofs.Common.{Result, Ok, Err}
use Rattle.owner_rules.specs.declared.owner.Owner.{Owner}

module _
    (live : Bool) (s : List ℕ) (start size parent x : ℕ) (t c : List ℕ) (at left above depth : ℕ)
    (w : Walking live s start size parent x t c at left above depth)
  where
    abbrev pub Met : Result Owner Refusal → List ℕ → Type 0
    Met r c' = WalkMet live s start size parent x t r c'

    pub turn_refused : (e : Refusal) → Err e ≡ element_header_read live s at → Met (Err e) c
    turn_refused e q =
        let (h, i) = step_refused live s at e (sym q) in
        walk_refused live s start size parent x t c at left above depth w e c
        (λ m. no_header_law live s x m depth above at left e.cause h ∙ ap refusal i)

    module _ (e : Headed) (q : Ok e ≡ element_header_read live s at) where
      read_here : HeaderThere s at e
      read_here = header_there s at e (step_read live s at e (sym q)).1

      -- The same as the mode takes it.
      head_here : element_header live s at ≡ heading e.header
      head_here = (step_read live s at e (sym q)).0

      abbrev pub size_of : ℕ
      size_of = e.header.length + e.header.size

      -- A header takes a byte at least, so that what is left falls.
      pub turn_takes : 1 ≤ e.header.length
      turn_takes = read_here.some

      -- No sum passes 2^64: the header lies in the recording.
      pub turn_fits : length s ≤ most_bytes → size_of < 2 ^ 64
      turn_fits l =
          let inside = read_here.inside in
          let behind = read_here.behind in
          let sized = read_here.sized in
          omega arith

      pub turn_deep : depths ≤ depth → Met (Err (too_deep at)) c
      turn_deep d =
          walk_refused live s start size parent x t c at left above depth w (too_deep at) c
          (λ m. steps.too_deep_law live s x m depth above at left e.header head_here d)

      module _ (d : depth < depths) where
        pub turn_large : left < size_of → Met (Err (overrun at)) c
        turn_large l =
            walk_refused live s start size parent x t c at left above depth w (overrun at) c
            (λ m. steps.too_large live s x m depth above at left e.header head_here d l)

        module _ (l : size_of ≤ left) where
          pub turn_header : (c' : List ℕ) → x - at < e.header.length → c' ≡ linked c depth at
              → Met (Ok (Header at depth)) c'
          turn_header c' a k =
              let low = w.low in
              walk_ends live s start size parent x t c at left above depth w header c' k
              (λ m. steps.in_header live s x m depth above at left e.header head_here d l (omega arith))

          pub turn_past : size_of ≤ x - at
              → Walking live s start size parent x t c (at + size_of) (left - size_of) above depth
          turn_past b =
              let some = read_here.some in
              let low = w.low in
              walk_past live s start size parent x t c at left above depth w e.header head_here d l (omega arith)

          module _ (a : e.header.length ≤ x - at) where
            -- The address is not in the header: it lies behind it.
            behind_header : at + e.header.length ≤ x
            behind_header = let some = read_here.some in let low = w.low in omega arith

            pub turn_payload : (c' : List ℕ) → x - at < size_of → (IsMaster e.header above → ⊥)
                → c' ≡ linked c depth at → Met (Ok (Payload at depth)) c'
            turn_payload c' b n k =
                let low = w.low in
                walk_ends live s start size parent x t c at left above depth w payload c' k
                (λ m.
                steps.in_payload live s x m depth above at left e.header head_here d l behind_header
                (omega arith) n)

            pub turn_into : (c' : List ℕ) → x - at < size_of → IsMaster e.header above → c' ≡ linked c depth at
                → Walking live s start size parent x t c' e.payload.at e.header.size e.header.id (depth + 1)
            turn_into c' b m k =
                let low = w.low in
                subst
                (λ (y : ℕ). Walking live s start size parent x t c' y e.header.size e.header.id (depth + 1))
                (sym read_here.behind)
                (walk_into live s start size parent x t c at left above depth w e.header c' head_here d l
                behind_header (omega arith) m k)

    -- While the address lies ahead, something is left.
    pub turn_ends : (r : Result Owner Refusal) → left ≤ 0 → Met r c
    turn_ends r z = let low = w.low in let high = w.high in absurd (omega arith)
