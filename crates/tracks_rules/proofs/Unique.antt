-- Any two replies and tables that the promise permits to one question are equal, its refusals are listed and honest,
-- and what the two modes have in common. Assumes nothing.
use mathlib.Core.Path.{◌≡◌, refl}
use Rattle.refusals.proofs.Listed.{listed}
use Rattle.codes.proofs.Unique.{type_once}
use Rattle.fields_rules.proofs.Once.{number_once, flag_once, content_once, language_once}
use Rattle.locate_rules.proofs.Lists.{told_at, told_from}
use Rattle.locate_rules.proofs.Honest.{answer_honest}
use Rattle.locate_rules.proofs.Unique.{one_reply}
use Rattle.locate_rules.proofs.Live.{record_modes}
use Rattle.media_rules.proofs.Unique.{audio_once, video_once}
use Rattle.tracks_rules.specs.Told.{typed_told, settings_values, track_values, track_told}
use Rattle.tracks_rules.specs.Promise.{track_asked}
use Rattle.tracks_rules.specs.Theorems.{OneTrack, TracksRefuseListed, TracksHonest, TracksLive}
use Rattle.tracks_rules.specs.declared.settings.Settings.TheVariants.{Video, Audio}
use Rattle.tracks_rules.specs.declared.track.Track.{Track}
use Rattle.std.proofs.Common.{Result, Option, Ok, Err, Some, None}
use Rattle.refusals.specs.declared.refusal.Refusal.{Refusal}
use Rattle.tracks_rules.specs.declared.settings.Settings.{Settings}
use Rattle.codes.specs.declared.tracktype.Tracktype.{Tracktype}
use Prim.Native.Nat.{ℕ}

-- ---- the fields tell the record

typed_once : (x y : Option Tracktype) → typed_told x ≡ typed_told y → x ≡ y
typed_once None None q = refl
typed_once None (Some t) q = cc
typed_once (Some t) None q = cc
typed_once (Some t) (Some u) q = cc (type_once t u (cc))

settings_once : (x y : Option Settings) → settings_values x ≡ settings_values y → x ≡ y
settings_once None None q = refl
settings_once None (Some (Video w)) q = cc
settings_once None (Some (Audio b)) q = cc
settings_once (Some (Video v)) None q = cc
settings_once (Some (Video v)) (Some (Video w)) q = cc (video_once v w (cc))
settings_once (Some (Video v)) (Some (Audio b)) q = cc
settings_once (Some (Audio a)) None q = cc
settings_once (Some (Audio a)) (Some (Video w)) q = cc
settings_once (Some (Audio a)) (Some (Audio b)) q = cc (audio_once a b (cc))

track_once : (a b : Track) → track_values a ≡ track_values b → a ≡ b
track_once a b q i =
    record {
      number = number_once a.number b.number (told_at 0 q) i;
      uid = number_once a.uid b.uid (told_at 1 q) i;
      tracktype = typed_once a.tracktype b.tracktype (told_at 2 q) i;
      enabled = flag_once a.enabled b.enabled (told_at 3 q) i;
      default = flag_once a.default b.default (told_at 4 q) i;
      forced = flag_once a.forced b.forced (told_at 5 q) i;
      hearing_impaired = flag_once a.hearing_impaired b.hearing_impaired (told_at 6 q) i;
      visual_impaired = flag_once a.visual_impaired b.visual_impaired (told_at 7 q) i;
      text_descriptions = flag_once a.text_descriptions b.text_descriptions (told_at 8 q) i;
      original = flag_once a.original b.original (told_at 9 q) i;
      commentary = flag_once a.commentary b.commentary (told_at 10 q) i;
      lacing = flag_once a.lacing b.lacing (told_at 11 q) i;
      default_duration = number_once a.default_duration b.default_duration (told_at 12 q) i;
      name = content_once a.name b.name (told_at 13 q) i;
      language = language_once a.language b.language (told_at 14 q) i;
      codec_id = content_once a.codec_id b.codec_id (told_at 15 q) i;
      codec_private = content_once a.codec_private b.codec_private (told_at 16 q) i;
      codec_name = content_once a.codec_name b.codec_name (told_at 17 q) i;
      settings = settings_once a.settings b.settings (told_from 18 q) i;
    }

-- ---- document 01's values tell the reply

track_told_law : (r r' : Result (Track × ℕ) Refusal) → track_told r ≡ track_told r' → r ≡ r'
track_told_law (Ok (a, n)) (Ok (b, m)) q = cc (track_once a b (cc))
track_told_law (Ok (a, n)) (Err e) q = cc
track_told_law (Err e) (Ok (b, m)) q = cc
track_told_law (Err e) (Err f) q = cc

-- ---- the theorems

pub track_unique : OneTrack
track_unique live s start size k = one_reply _ (track_asked live s start size k) track_told track_told_law

pub tracks_refuse_listed : TracksRefuseListed
tracks_refuse_listed = record { track = λ live s start size k t e t' p. listed e }

pub tracks_honest : TracksHonest
tracks_honest = record {
  track = λ live s start size k t e t' p. answer_honest.of_record live _ s start size _ _ _ e t' p;
}

pub tracks_live : TracksLive
tracks_live = record {
  track = λ s start size k. record_modes track_told Err track_told_law (λ e. refl) _ s start size _ _;
}
