-- `later` meets its contract: case by case. Assumes nothing.
use Rattle.tracks_rules.proofs.Decided.{video_alone, audio_alone, audio_later, video_later}
use Rattle.tracks.proofs.settings.later.Goals as goal

pub returns-then-first-second : goal.returns-then-first-second
returns-then-first-second c = search audio_later

pub returns-in-Some-audio : goal.returns-in-Some-audio
returns-in-Some-audio c = search audio_alone

pub returns-in-None-audio-2 : goal.returns-in-None-audio-2
returns-in-None-audio-2 c = search video_alone

pub returns-else-first-second : goal.returns-else-first-second
returns-else-first-second c = search video_later
