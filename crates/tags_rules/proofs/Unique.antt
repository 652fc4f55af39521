-- Any two replies and tables that a promise permits to one question are equal, its refusals are listed and honest, and
-- what the two modes have in common. Assumes nothing.
use Prim.Native.Nat.{ℕ}
use mathlib.Core.Path.{◌≡◌, refl, ap}
use mathlib.Core.List.{[], ◌∷◌, ◌++◌}
use Rattle.fields_rules.specs.Values.{count}
use Rattle.refusals.proofs.Listed.{listed}
use Rattle.fields_rules.proofs.Once.{number_once, flag_once, content_once, language_once, value_once, count_once}
use Rattle.locate_rules.proofs.Honest.{answer_honest}
use Rattle.locate_rules.proofs.Unique.{one_reply}
use Rattle.locate_rules.proofs.Live.{record_modes, member_modes}
use Rattle.tags_rules.specs.Told.{target_values, targets_values, tag_values, simple_values}
use Rattle.tags_rules.specs.Told.{tag_told, uid_told, simple_told}
use Rattle.tags_rules.specs.Promise.{tag_asked, uid_asked, simple_asked}
use Rattle.tags_rules.specs.Theorems.{OneTag, OneUid, OneSimple, TagsRefuseListed, TagsHonest, TagsLive}
use Rattle.tags_rules.specs.declared.simple.SimpleTag.{SimpleTag}
use Rattle.tags_rules.specs.declared.tag.Target.{Target}
use Rattle.tags_rules.specs.declared.tag.Tag.{Tag}
use Rattle.std.proofs.Common.{Result, Option, Ok, Err, Some, None}
use Rattle.refusals.specs.declared.refusal.Refusal.{Refusal}

-- ---- the fields tell the record

simple_once : (a b : SimpleTag) → simple_values a ≡ simple_values b → a ≡ b
simple_once a b q i =
    record {
      name = content_once a.name b.name (cc) i;
      language = language_once a.language b.language (cc) i;
      default = flag_once a.default b.default (cc) i;
      value = value_once a.value b.value (cc) i;
    }

target_once : (a b : Target) → target_values a ≡ target_values b → a ≡ b
target_once a b q i =
    record {
      target_type_value = number_once a.target_type_value b.target_type_value (cc) i;
      target_type = content_once a.target_type b.target_type (cc) i;
      tracks = count_once a.tracks b.tracks (cc) i;
      editions = count_once a.editions b.editions (cc) i;
      chapters = count_once a.chapters b.chapters (cc) i;
      attachments = count_once a.attachments b.attachments (cc) i;
    }

targets_once : (x y : Option Target) (n m : ℕ) → targets_values x ++ (count n ∷ []) ≡ targets_values y ++ (count m ∷ [])
    → (x ≡ y) × (n ≡ m)
targets_once None None n m q = (refl, cc)
targets_once None (Some y) n m q = (cc, cc)
targets_once (Some x) None n m q = (cc, cc)
targets_once (Some x) (Some y) n m q = (ap Some (target_once x y (cc)), cc)

tag_once : (a b : Tag) → tag_values a ≡ tag_values b → a ≡ b
tag_once a b q i =
    let same = targets_once a.targets b.targets a.simple b.simple q in
    record { targets = same.0 i; simple = same.1 i }

-- ---- document 01's values tell the reply

simple_told_law : (r r' : Result (SimpleTag × ℕ) Refusal) → simple_told r ≡ simple_told r' → r ≡ r'
simple_told_law (Ok (a, n)) (Ok (b, m)) q = cc (simple_once a b (cc))
simple_told_law (Ok (a, n)) (Err e) q = cc
simple_told_law (Err e) (Ok (b, m)) q = cc
simple_told_law (Err e) (Err f) q = cc

tag_told_law : (r r' : Result (Tag × ℕ) Refusal) → tag_told r ≡ tag_told r' → r ≡ r'
tag_told_law (Ok (a, n)) (Ok (b, m)) q = cc (tag_once a b (cc))
tag_told_law (Ok (a, n)) (Err e) q = cc
tag_told_law (Err e) (Ok (b, m)) q = cc
tag_told_law (Err e) (Err f) q = cc

uid_told_law : (r r' : Result (ℕ × ℕ) Refusal) → uid_told r ≡ uid_told r' → r ≡ r'
uid_told_law (Ok (a, n)) (Ok (b, m)) q = cc
uid_told_law (Ok (a, n)) (Err e) q = cc
uid_told_law (Err e) (Ok (b, m)) q = cc
uid_told_law (Err e) (Err f) q = cc

-- ---- the theorems

pub tag_unique : OneTag
tag_unique live s start size k = one_reply _ (tag_asked live s start size k) tag_told tag_told_law

pub uid_unique : OneUid
uid_unique live s start size k list i = one_reply _ (uid_asked live s start size k list i) uid_told uid_told_law

pub simple_unique : OneSimple
simple_unique live s start size k i = one_reply _ (simple_asked live s start size k i) simple_told simple_told_law

pub tags_refuse_listed : TagsRefuseListed
tags_refuse_listed =
    record {
      tag = λ live s start size k t e t' p. listed e;
      uid = λ live s start size k list i t e t' p. listed e;
      simple = λ live s start size k i t e t' p. listed e;
    }

pub tags_honest : TagsHonest
tags_honest = record {
  tag = λ live s start size k t e t' p. answer_honest.of_record live _ s start size _ _ _ e t' p;
  uid = λ live s start size k list i t e t' p. answer_honest.of_member live _ _ s start size _ _ _ e t' p;
  simple = λ live s start size k i t e t' p. answer_honest.of_record live _ s start size _ _ _ e t' p;
}

pub tags_live : TagsLive
tags_live = record {
  tag = λ s start size k. record_modes tag_told Err tag_told_law (λ e. refl) _ s start size _ _;
  uid = λ s start size k list i. member_modes uid_told Err uid_told_law (λ e. refl) _ s start size _ _ _;
  simple = λ s start size k i. record_modes simple_told Err simple_told_law (λ e. refl) _ s start size _ _;
}
