-- A field's value tells each of its cases apart. Assumes nothing.
use Prim.Native.Nat.{ℕ}
use mathlib.Core.Path.{◌≡◌, refl, ap}
use Rattle.bodies_rules.specs.declared.body.Range.{Range}
use Rattle.fields_rules.specs.Values.{count}
use Rattle.fields_rules.specs.Told.{number_told, flag_told, content_told, language_told, value_told, real_told}
use Rattle.fields_rules.specs.Told.{date_told}
use Rattle.fields_rules.specs.declared.field.Language.TheVariants.{Iso, Ietf}
use Rattle.fields_rules.specs.declared.field.TagValue.TheVariants.{Text, Binary}
use Rattle.std.proofs.Common.{ℤ, Float, Bool, true, false, Option, Some, None}
use Rattle.fields_rules.specs.declared.field.Language.{Language}
use Rattle.fields_rules.specs.declared.field.TagValue.{TagValue}

same_range : (g h : Range) → g.at ≡ h.at → g.length ≡ h.length → g ≡ h
same_range g h a l i = record { at = a i; length = l i }

pub number_once : (x y : Option ℕ) → number_told x ≡ number_told y → x ≡ y
number_once None None q = refl
number_once None (Some h) q = cc
number_once (Some g) None q = cc
number_once (Some g) (Some h) q = ap Some (cc)

pub flag_once : (x y : Option Bool) → flag_told x ≡ flag_told y → x ≡ y
flag_once None None q = refl
flag_once None (Some false) q = cc
flag_once None (Some true) q = cc
flag_once (Some false) None q = cc
flag_once (Some false) (Some false) q = refl
flag_once (Some false) (Some true) q = cc
flag_once (Some true) None q = cc
flag_once (Some true) (Some false) q = cc
flag_once (Some true) (Some true) q = refl

pub content_once : (x y : Option Range) → content_told x ≡ content_told y → x ≡ y
content_once None None q = refl
content_once None (Some h) q = cc
content_once (Some g) None q = cc
content_once (Some g) (Some h) q = ap Some (same_range g h (cc) (cc))

pub language_once : (x y : Option Language) → language_told x ≡ language_told y → x ≡ y
language_once None None q = refl
language_once None (Some (Iso h)) q = cc
language_once None (Some (Ietf h)) q = cc
language_once (Some (Iso g)) None q = cc
language_once (Some (Iso g)) (Some (Iso h)) q = ap Some (ap Iso (same_range g h (cc) (cc)))
language_once (Some (Iso g)) (Some (Ietf h)) q = cc
language_once (Some (Ietf g)) None q = cc
language_once (Some (Ietf g)) (Some (Iso h)) q = cc
language_once (Some (Ietf g)) (Some (Ietf h)) q = ap Some (ap Ietf (same_range g h (cc) (cc)))

pub value_once : (x y : Option TagValue) → value_told x ≡ value_told y → x ≡ y
value_once None None q = refl
value_once None (Some (Text h)) q = cc
value_once None (Some (Binary h)) q = cc
value_once (Some (Text g)) None q = cc
value_once (Some (Text g)) (Some (Text h)) q = ap Some (ap Text (same_range g h (cc) (cc)))
value_once (Some (Text g)) (Some (Binary h)) q = cc
value_once (Some (Binary g)) None q = cc
value_once (Some (Binary g)) (Some (Text h)) q = cc
value_once (Some (Binary g)) (Some (Binary h)) q = ap Some (ap Binary (same_range g h (cc) (cc)))

pub real_once : (x y : Option Float) → real_told x ≡ real_told y → x ≡ y
real_once None None q = refl
real_once None (Some h) q = cc
real_once (Some g) None q = cc
real_once (Some g) (Some h) q = ap Some (cc)

pub date_once : (x y : Option ℤ) → date_told x ≡ date_told y → x ≡ y
date_once None None q = refl
date_once None (Some h) q = cc
date_once (Some g) None q = cc
date_once (Some g) (Some h) q = ap Some (cc)

pub count_once : (n m : ℕ) → count n ≡ count m → n ≡ m
count_once n m q = cc
