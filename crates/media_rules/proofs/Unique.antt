-- Any two replies and tables that a promise permits to one question are equal, its refusals are listed and honest, and
-- what the two modes have in common. Assumes nothing.
use mathlib.Core.Path.{◌≡◌, refl}
use Rattle.refusals.proofs.Listed.{listed}
use Rattle.codes.proofs.Unique.{mode_once}
use Rattle.fields_rules.proofs.Once.{number_once, flag_once, real_once}
use Rattle.locate_rules.proofs.Honest.{answer_honest}
use Rattle.locate_rules.proofs.Unique.{one_reply}
use Rattle.locate_rules.proofs.Live.{record_modes}
use Rattle.media_rules.specs.Told.{stereo_told, audio_values, video_values, audio_told}
use Rattle.media_rules.specs.Promise.{audio_asked}
use Rattle.media_rules.specs.Theorems.{OneAudio, MediaRefuseListed, MediaHonest, MediaLive}
use Rattle.media_rules.specs.declared.audio.Audio.{Audio}
use Rattle.media_rules.specs.declared.video.Video.{Video}
use Rattle.std.proofs.Common.{Result, Option, Ok, Err, Some, None}
use Rattle.refusals.specs.declared.refusal.Refusal.{Refusal}
use Rattle.codes.specs.declared.stereo.StereoMode.{StereoMode}
use Prim.Native.Nat.{ℕ}

-- ---- the fields tell the record

stereo_once : (x y : Option StereoMode) → stereo_told x ≡ stereo_told y → x ≡ y
stereo_once None None q = refl
stereo_once None (Some m) q = cc
stereo_once (Some m) None q = cc
stereo_once (Some m) (Some n) q = cc (mode_once m n (cc))

pub audio_once : (a b : Audio) → audio_values a ≡ audio_values b → a ≡ b
audio_once a b q i =
    record {
      sample_rate = real_once a.sample_rate b.sample_rate (cc) i;
      channels = number_once a.channels b.channels (cc) i;
      bit_depth = number_once a.bit_depth b.bit_depth (cc) i;
    }

pub video_once : (a b : Video) → video_values a ≡ video_values b → a ≡ b
video_once a b q i =
    record {
      pixel_width = number_once a.pixel_width b.pixel_width (cc) i;
      pixel_height = number_once a.pixel_height b.pixel_height (cc) i;
      display_width = number_once a.display_width b.display_width (cc) i;
      display_height = number_once a.display_height b.display_height (cc) i;
      interlaced = flag_once a.interlaced b.interlaced (cc) i;
      stereo = stereo_once a.stereo b.stereo (cc) i;
      gamma = real_once a.gamma b.gamma (cc) i;
    }

-- ---- document 01's values tell the reply

audio_told_law : (r r' : Result (Audio × ℕ) Refusal) → audio_told r ≡ audio_told r' → r ≡ r'
audio_told_law (Ok (a, n)) (Ok (b, m)) q = cc (audio_once a b (cc))
audio_told_law (Ok (a, n)) (Err e) q = cc
audio_told_law (Err e) (Ok (b, m)) q = cc
audio_told_law (Err e) (Err f) q = cc

-- ---- the theorems

pub audio_unique : OneAudio
audio_unique live s start size k = one_reply _ (audio_asked live s start size k) audio_told audio_told_law

pub media_refuse_listed : MediaRefuseListed
media_refuse_listed = record { audio = λ live s start size k t e t' p. listed e }

pub media_honest : MediaHonest
media_honest = record {
  audio = λ live s start size k t e t' p. answer_honest.of_record live _ s start size _ _ _ e t' p;
}

pub media_live : MediaLive
media_live = record {
  audio = λ s start size k. record_modes audio_told Err audio_told_law (λ e. refl) _ s start size _ _;
}
