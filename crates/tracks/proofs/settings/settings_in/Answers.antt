-- `settings_in` meets its contract: the master that decides, with the rows below it. Assumes nothing.
use native.Mathlib.Omega.{arith}
use Rattle.locate_rules.proofs.Ways.{within}
use Rattle.locate_rules.proofs.Inner.{inner_readable}
use Rattle.tracks_rules.proofs.Decided.{video_known, audio_known, video_fits, audio_fits}
use Rattle.tracks_rules.proofs.Decided.{no_settings, video_settings, audio_settings}
use Rattle.tracks.proofs.settings.settings_in.Goals as goal

pub last_child-video-requires : goal.last_child-video-requires
last_child-video-requires c = search within

pub last_child-audio-requires : goal.last_child-audio-requires
last_child-audio-requires c = search within

pub overflow_add-number : goal.overflow_add-number
overflow_add-number c = let is = c.in_ok-number.was in search (video_fits, arith)

pub rows_below-requires : goal.rows_below-requires
rows_below-requires c = let is = c.in_ok-number.was in search video_known

pub invariant_of-fields : goal.invariant_of-fields
invariant_of-fields c = record { readable = inner_readable c.requires.filled c.rows_below.ensures }

pub overflow_add-number-in-Audio : goal.overflow_add-number-in-Audio
overflow_add-number-in-Audio c = let is = c.in_ok-number.was in search (audio_fits, arith)

pub rows_below-requires-in-Audio : goal.rows_below-requires-in-Audio
rows_below-requires-in-Audio c = let is = c.in_ok-number.was in search audio_known

pub invariant_of-fields-in-Audio : goal.invariant_of-fields-in-Audio
invariant_of-fields-in-Audio c = record { readable = inner_readable c.requires.filled c.rows_below-in-Audio.ensures }

pub returns-in_err-number : goal.returns-in_err-number
returns-in_err-number c = rw c.from_residual.ensures (no_settings c.requires c.last_child-video.ensures c.last_child-audio.ensures c.later.ensures (c.in_err-number.was))

pub returns-in-Video : goal.returns-in-Video
returns-in-Video c = let is = c.in_ok-number.was in search video_settings

pub returns-in-Audio : goal.returns-in-Audio
returns-in-Audio c = let is = c.in_ok-number.was in search audio_settings
