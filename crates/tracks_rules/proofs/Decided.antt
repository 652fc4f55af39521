-- The Video or Audio that decides on the settings of a track, and the settings that it holds. Assumes nothing.
use Prim.Native.Nat.{ℕ, ◌+◌, ◌^◌, ◌≤◌, ◌<◌}
use mathlib.Core.Path.{◌≡◌, refl, sym, ap, ◌∙◌, subst}
use mathlib.Core.List.{List, [], ◌∷◌}
use mathlib.Core.Bool.{Bool, true, false, cond}
use native.Mathlib.Omega.{arith}
use borrow.Author.Tests.{lt-ltb, le-ltb}
use lib.Dec.{ltb}
use Rattle.elements_rules.specs.Rows.{rows_of}
use Rattle.elements_rules.specs.declared.row.Row.{Row}
use Rattle.fields_rules.specs.Children.{rows_in}
use Rattle.fields_rules.specs.Contract.{BelowIs}
use Rattle.fields_rules.specs.Values.{FieldValue, unset, number}
use Rattle.fields_rules.specs.declared.child.Below.{Below}
use Rattle.locate_rules.specs.Contract.{Stands}
use Rattle.locate_rules.proofs.Inner.{last_inner, inner_is, inner_known, inner_fields}
use Rattle.media_rules.specs.Records.{audio_of, video_of}
use Rattle.tracks_rules.specs.Settings.{decided, settings_in, settings_of}
use Rattle.tracks_rules.specs.Records.{entry_of, track_of}
use Rattle.tracks_rules.specs.declared.settings.Deciding.TheVariants.{Video, Audio}
use Rattle.std.proofs.Common.{Option, Some, None}
use Rattle.tracks_rules.specs.declared.settings.Deciding.{Deciding}

-- ---- the later of two

pub decided_by : (v v' a a' : Option (ℕ × Row)) → v ≡ v' → a ≡ a' → decided v' a' ≡ decided v a
decided_by v v' a a' p q = sym (ap (λ (x : Option (ℕ × Row)). decided x a) p ∙ ap (decided v') q)

module _ {v a : (Option (ℕ × Row))} where
  pub video_alone : {n : ℕ} {r : Row} → v ≡ Some (n, r) → a ≡ None → Some (Video n) ≡ decided v a
  video_alone {n} {r} p e = decided_by v (Some (n, r)) a None p e

  pub audio_alone : {m : ℕ} {q : Row} → v ≡ None → a ≡ Some (m, q) → Some (Audio m) ≡ decided v a
  audio_alone {m} {q} p e = decided_by v None a (Some (m, q)) p e

  module _ {n m : ℕ} {r q : Row} (p : v ≡ Some (n, r)) (e : a ≡ Some (m, q)) where
    pub audio_later : n < m → Some (Audio m) ≡ decided v a
    audio_later l =
        let z : cond (ltb n m) (Some (Audio m)) (Some (Video n)) ≡ Some (Audio m) = rw (lt-ltb n m l) refl in
        sym z ∙ decided_by v (Some (n, r)) a (Some (m, q)) p e

    pub video_later : m ≤ n → Some (Video n) ≡ decided v a
    video_later l =
        let z : cond (ltb n m) (Some (Audio m)) (Some (Video n)) ≡ Some (Video n) = rw (le-ltb n m l) refl in
        sym z ∙ decided_by v (Some (n, r)) a (Some (m, q)) p e

-- ---- what decides is there: what holds of the last Video or Audio holds of it

module _ (P : ℕ → Type 0) where
  pub video_is : (v a : Option (ℕ × Row)) (n : ℕ) → ((m : ℕ) (r : Row) → Some (m, r) ≡ v → P m) → Some (Video n) ≡ decided v a → P n
  video_is None None n h d = let z : ◌≡◌ {A = ℕ} 0 1 = cc in absurd (omega arith)
  video_is None (Some (m, q)) n h d = let z : ◌≡◌ {A = ℕ} 0 1 = cc in absurd (omega arith)
  video_is (Some (k, r)) None n h d = let e : k ≡ n = cc in subst P e (h k r refl)
  video_is (Some (k, r)) (Some (m, q)) n h d = go (ltb k m) d
    where
      go : (b : Bool) → Some (Video n) ≡ cond b (Some (Audio m)) (Some (Video k)) → P n
      go true d = let z : ◌≡◌ {A = ℕ} 0 1 = cc in absurd (omega arith)
      go false d = let e : k ≡ n = cc in subst P e (h k r refl)

  pub audio_is : (v a : Option (ℕ × Row)) (n : ℕ) → ((m : ℕ) (r : Row) → Some (m, r) ≡ a → P m) → Some (Audio n) ≡ decided v a → P n
  audio_is None None n h d = let z : ◌≡◌ {A = ℕ} 0 1 = cc in absurd (omega arith)
  audio_is None (Some (m, q)) n h d = let e : m ≡ n = cc in subst P e (h m q refl)
  audio_is (Some (k, r)) None n h d = let z : ◌≡◌ {A = ℕ} 0 1 = cc in absurd (omega arith)
  audio_is (Some (k, r)) (Some (m, q)) n h d = go (ltb k m) d
    where
      go : (b : Bool) → Some (Audio n) ≡ cond b (Some (Audio m)) (Some (Video k)) → P n
      go true d = let e : m ≡ n = cc in subst P e (h m q refl)
      go false d = let z : ◌≡◌ {A = ℕ} 0 1 = cc in absurd (omega arith)

-- ---- the settings below a master

module _ {s t : List ℕ} {rows : ℕ} {b : Below} (h : Stands s t rows b) {v a : (Option (ℕ × Row))}
    (p : v ≡ last_inner t b 0xE0) (q : a ≡ last_inner t b 0xE1) {d : (Option Deciding)} (e : d ≡ decided v a) where
  module _ {n : ℕ} {x : Deciding} (w : d ≡ Some x) where
    pub video_known : x ≡ Video n → n + 1 ≤ rows
    video_known g =
        video_is (λ m. m + 1 ≤ rows) v a n (λ m r f. inner_known h 0xE0 p (sym f)) (sym (w ∙ ap Some g) ∙ e)

    pub audio_known : x ≡ Audio n → n + 1 ≤ rows
    audio_known g =
        audio_is (λ m. m + 1 ≤ rows) v a n (λ m r f. inner_known h 0xE1 q (sym f)) (sym (w ∙ ap Some g) ∙ e)

    pub video_fits : x ≡ Video n → rows < 2 ^ 64 → n + 1 < 2 ^ 64
    video_fits g u = let k = video_known g in omega arith

    pub audio_fits : x ≡ Audio n → rows < 2 ^ 64 → n + 1 < 2 ^ 64
    audio_fits g u = let k = audio_known g in omega arith

  settings_by : (c : Option Deciding) → d ≡ c
      → settings_in s (rows_of t rows) b.parent c ≡ settings_of s (rows_of t rows) b.parent
  unfolding settings_of
  settings_by c w =
      ap (settings_in s (rows_of t rows) b.parent)
      (sym w ∙ e ∙ sym (decided_by v _ a _ (inner_is h 0xE0 p) (inner_is h 0xE1 q)))

  pub no_settings : d ≡ None → unset ∷ [] ≡ settings_of s (rows_of t rows) b.parent
  no_settings w = settings_by None w

  module _ {n : ℕ} {x : Deciding} (w : d ≡ Some x) {inner : Below} (i : BelowIs t rows (n + 1) inner)
      {vs : List FieldValue} where
    pub video_settings : x ≡ Video n → vs ≡ video_of s inner.parent (rows_in t inner)
        → number 1 ∷ vs ≡ settings_of s (rows_of t rows) b.parent
    video_settings g f =
        ap (λ (y : List FieldValue). number 1 ∷ y) (inner_fields (video_of s) t rows n i f)
        ∙ settings_by (Some (Video n)) (w ∙ ap Some g)

    pub audio_settings : x ≡ Audio n → vs ≡ audio_of s inner.parent (rows_in t inner)
        → number 2 ∷ vs ≡ settings_of s (rows_of t rows) b.parent
    audio_settings g f =
        ap (λ (y : List FieldValue). number 2 ∷ y) (inner_fields (audio_of s) t rows n i f)
        ∙ settings_by (Some (Audio n)) (w ∙ ap Some g)

-- ---- the track itself

-- Its fields are built of the rows below it, which stand among those that were read.
pub track_is :
    {s t : List ℕ} {rows : ℕ} {b : Below} {vs settings : List FieldValue} → Stands s t rows b
    → settings ≡ settings_of s (rows_of t rows) b.parent → vs ≡ entry_of s b.parent (rows_in t b) settings
    → vs ≡ track_of s (rows_of t rows) b.parent
unfolding track_of
track_is {s} {t} {rows} {b} h e q =
    q ∙ ap (entry_of s b.parent (rows_in t b)) e
    ∙ ap (λ (x : List Row). entry_of s b.parent x (settings_of s (rows_of t rows) b.parent)) h.below.are
