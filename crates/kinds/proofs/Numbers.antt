-- A kind's number tells the kind. Assumes nothing.
use mathlib.Core.Path.{◌≡◌, refl, ap, sym, ◌∙◌}
use mathlib.Core.Bool.{Bool, true, false, cond}
use Prim.Native.Nat.{ℕ}
use lib.Dec.{eqb}
use denote.Enum.Bare.{sameb}
use borrow.Author.Tests.{eqb-true, eqb-false}
use Rattle.kinds.specs.Kinds.{number_of, kind_numbered, kind_under, demoted}
use Rattle.kinds.specs.Promise.{KindPromise}
use Rattle.kinds.specs.contracts.kind.Kind as kind
use Rattle.kinds.specs.declared.kind.Kind.{Kind}
use Rattle.kinds.specs.declared.kind.Kind.TheVariants.{Master, Int, Uint, String, Utf8, Binary, Float, Date}

pub kind_back : (k : Kind) → kind_numbered (number_of k) ≡ k
kind_back Master = refl
kind_back Int = refl
kind_back Uint = refl
kind_back String = refl
kind_back Utf8 = refl
kind_back Binary = refl
kind_back Float = refl
kind_back Date = refl

pub number_tells : (k k' : Kind) → number_of k ≡ number_of k' → k ≡ k'
number_tells k k' e = sym (kind_back k) ∙ ap kind_numbered e ∙ kind_back k'

-- The promise gives the kind itself.
pub promised_kind : (id parent : ℕ) (k : Kind) → KindPromise id parent k → k ≡ kind_under id parent
promised_kind id parent k p = number_tells k (kind_under id parent) p.reply

-- Only a master loses its kind.
pub others_stay : (k : Kind) → (number_of k ≡ 1 → ⊥) → demoted k ≡ k
unfolding demoted
others_stay Master other = absurd (other refl)
others_stay Int other = refl
others_stay Uint other = refl
others_stay String other = refl
others_stay Utf8 other = refl
others_stay Binary other = refl
others_stay Float other = refl
others_stay Date other = refl

-- A choice of two that are the same.
pub either : (b : Bool) (k : Kind) → cond b k k ≡ k
either true k = refl
either false k = refl

-- `==` with the kind of a master tells by its number.
by_number : (k : Kind) → sameb kind.the_type k Master ≡ eqb (number_of k) 1
by_number Master = refl
by_number Int = refl
by_number Uint = refl
by_number String = refl
by_number Utf8 = refl
by_number Binary = refl
by_number Float = refl
by_number Date = refl

pub is_master : (k : Kind) → true ≡ sameb kind.the_type k Master → number_of k ≡ 1
is_master k e = eqb-true (number_of k) 1 (sym (e ∙ by_number k))

pub no_master : (k : Kind) → false ≡ sameb kind.the_type k Master → number_of k ≡ 1 → ⊥
no_master k e = eqb-false (number_of k) 1 (sym (e ∙ by_number k))
