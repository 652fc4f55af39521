-- Any two replies and tables that a promise permits to one question are equal, its refusals are listed and honest, and
-- what the two modes have in common. Assumes nothing.
use mathlib.Core.Path.{◌≡◌, refl}
use Rattle.refusals.proofs.Listed.{listed}
use Rattle.bodies_rules.specs.declared.body.Range.{Range}
use Rattle.fields_rules.proofs.Once.{number_once, content_once, real_once, date_once, count_once}
use Rattle.locate_rules.proofs.Honest.{answer_honest}
use Rattle.locate_rules.proofs.Unique.{one_reply}
use Rattle.locate_rules.proofs.Live.{record_modes, member_modes}
use Rattle.info_rules.specs.Told.{info_values, info_told, family_told}
use Rattle.info_rules.specs.Promise.{info_asked, family_asked}
use Rattle.info_rules.specs.Theorems.{OneInfo, OneFamily, InfoRefusesListed, InfoHonest, InfoLive}
use Rattle.info_rules.specs.declared.info.Info.{Info}
use Rattle.std.proofs.Common.{Result, Ok, Err}
use Rattle.refusals.specs.declared.refusal.Refusal.{Refusal}
use Prim.Native.Nat.{ℕ}

-- The fields tell the record, and document 01's values the reply.
info_once : (a b : Info) → info_values a ≡ info_values b → a ≡ b
info_once a b q i =
    record {
      uid = content_once a.uid b.uid (cc) i;
      prev_uid = content_once a.prev_uid b.prev_uid (cc) i;
      next_uid = content_once a.next_uid b.next_uid (cc) i;
      families = count_once a.families b.families (cc) i;
      title = content_once a.title b.title (cc) i;
      duration = real_once a.duration b.duration (cc) i;
      timestamp_scale = number_once a.timestamp_scale b.timestamp_scale (cc) i;
      date_utc = date_once a.date_utc b.date_utc (cc) i;
      muxing_app = content_once a.muxing_app b.muxing_app (cc) i;
      writing_app = content_once a.writing_app b.writing_app (cc) i;
    }

info_told_law : (r r' : Result (Info × ℕ) Refusal) → info_told r ≡ info_told r' → r ≡ r'
info_told_law (Ok (a, n)) (Ok (b, m)) q = cc (info_once a b (cc))
info_told_law (Ok (a, n)) (Err e) q = cc
info_told_law (Err e) (Ok (b, m)) q = cc
info_told_law (Err e) (Err f) q = cc

-- Two ranges of the same place.
same_place : (g h : Range) → g.at ≡ h.at → g.length ≡ h.length → g ≡ h
same_place g h a l i = record { at = a i; length = l i }

family_told_law : (r r' : Result (Range × ℕ) Refusal) → family_told r ≡ family_told r' → r ≡ r'
family_told_law (Ok (g, n)) (Ok (h, m)) q = cc (same_place g h (cc) (cc))
family_told_law (Ok (g, n)) (Err e) q = cc
family_told_law (Err e) (Ok (h, m)) q = cc
family_told_law (Err e) (Err f) q = cc

-- ---- the theorems

pub info_unique : OneInfo
info_unique live s start size k = one_reply _ (info_asked live s start size k) info_told info_told_law

pub family_unique : OneFamily
family_unique live s start size k i = one_reply _ (family_asked live s start size k i) family_told family_told_law

pub info_refuses_listed : InfoRefusesListed
info_refuses_listed =
    record {
      info = λ live s start size k t e t' p. listed e;
      family = λ live s start size k i t e t' p. listed e;
    }

pub info_honest : InfoHonest
info_honest = record {
  info = λ live s start size k t e t' p. answer_honest.of_record live _ s start size _ _ _ e t' p;
  family = λ live s start size k i t e t' p. answer_honest.of_member live _ _ s start size _ _ _ e t' p;
}

pub info_live : InfoLive
info_live = record {
  info = λ s start size k. record_modes info_told Err info_told_law (λ e. refl) _ s start size _ _;
  family = λ s start size k i. member_modes family_told Err family_told_law (λ e. refl) _ s start size _ _ _;
}
