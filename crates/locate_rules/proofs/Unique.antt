-- Any two answers and tables that the promise permits to one question are equal. Assumes nothing.
use Prim.Native.Nat.{ℕ}
use mathlib.Core.Path.{◌≡◌, sym, ap, ◌∙◌}
use mathlib.Core.List.{List}
use lib.ListN.{length}
use Rattle.elements_rules.specs.declared.row.Row.{Row}
use Rattle.fields_rules.specs.Values.{FieldValue}
use Rattle.locate_rules.specs.Asked.{Asked, table_after}
use Rattle.locate_rules.specs.Told.{Answer}
use Rattle.locate_rules.specs.Promise.{answer_of, RecordPromise}
use Rattle.locate_rules.specs.Theorems.{OneAnswer, OneReply}

-- The question of one length of the table is that of another.
pub one_answer : OneAnswer
one_answer values ask n m x y t' u' l p q = (
  p.reply ∙ ap (λ (i : ℕ). answer_of values (ask i)) l ∙ sym q.reply,
  p.table ∙ ap (λ (i : ℕ). table_after i (ask i)) l ∙ sym q.table,
)

-- A question whose replies are told apart by their answers has one reply.
pub one_reply : {R : Type 0} (values : List Row → ℕ → List FieldValue) (ask : ℕ → Asked) (told : R → Answer)
    → ((r r' : R) → told r ≡ told r' → r ≡ r')
    → OneReply (λ (t : List ℕ) (r : R) (t' : List ℕ). RecordPromise values (ask (length t)) (length t) (told r) t')
one_reply values ask told once t u r r' t' u' l p q =
    let (a, b) = one_answer values ask _ _ _ _ _ _ l p q in
    (once r r' a, b)
