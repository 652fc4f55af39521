-- Any two replies and tables that a promise permits to one question are equal, its refusals are listed and honest, and
-- what the two modes have in common. Assumes nothing.
use mathlib.Core.Path.{◌≡◌, refl}
use Rattle.refusals.proofs.Listed.{listed}
use Rattle.fields_rules.proofs.Once.{number_once, flag_once, content_once, language_once, count_once}
use Rattle.locate_rules.proofs.Honest.{answer_honest}
use Rattle.locate_rules.proofs.Unique.{one_reply}
use Rattle.locate_rules.proofs.Live.{record_modes}
use Rattle.chapters.specs.Told.{edition_values, chapter_values, display_values}
use Rattle.chapters.specs.Told.{edition_told, chapter_told, display_told}
use Rattle.chapters.specs.Promise.{edition_asked, chapter_asked, display_asked}
use Rattle.chapters.specs.Theorems.{OneEdition, OneChapter, OneDisplay, ChaptersRefuseListed, ChaptersHonest}
use Rattle.chapters.specs.Theorems.{ChaptersLive}
use Rattle.chapters.specs.declared.edition.ChapterEdition.{ChapterEdition}
use Rattle.chapters.specs.declared.chapter.Chapter.{Chapter}
use Rattle.chapters.specs.declared.display.ChapterDisplay.{ChapterDisplay}
use Rattle.std.proofs.Common.{Result, Ok, Err}
use Rattle.refusals.specs.declared.refusal.Refusal.{Refusal}
use Prim.Native.Nat.{ℕ}

-- ---- the fields tell the record

edition_once : (a b : ChapterEdition) → edition_values a ≡ edition_values b → a ≡ b
edition_once a b q i =
    record {
      uid = number_once a.uid b.uid (cc) i;
      hidden = flag_once a.hidden b.hidden (cc) i;
      default = flag_once a.default b.default (cc) i;
      ordered = flag_once a.ordered b.ordered (cc) i;
      chapters = count_once a.chapters b.chapters (cc) i;
    }

chapter_once : (a b : Chapter) → chapter_values a ≡ chapter_values b → a ≡ b
chapter_once a b q i =
    record {
      uid = number_once a.uid b.uid (cc) i;
      time_start = number_once a.time_start b.time_start (cc) i;
      time_end = number_once a.time_end b.time_end (cc) i;
      hidden = flag_once a.hidden b.hidden (cc) i;
      enabled = flag_once a.enabled b.enabled (cc) i;
      segment_uid = content_once a.segment_uid b.segment_uid (cc) i;
      segment_edition_uid = number_once a.segment_edition_uid b.segment_edition_uid (cc) i;
      displays = count_once a.displays b.displays (cc) i;
    }

display_once : (a b : ChapterDisplay) → display_values a ≡ display_values b → a ≡ b
display_once a b q i =
    record {
      string = content_once a.string b.string (cc) i;
      language = language_once a.language b.language (cc) i;
    }

-- ---- document 01's values tell the reply

edition_told_law : (r r' : Result (ChapterEdition × ℕ) Refusal) → edition_told r ≡ edition_told r' → r ≡ r'
edition_told_law (Ok (a, n)) (Ok (b, m)) q = cc (edition_once a b (cc))
edition_told_law (Ok (a, n)) (Err e) q = cc
edition_told_law (Err e) (Ok (b, m)) q = cc
edition_told_law (Err e) (Err f) q = cc

chapter_told_law : (r r' : Result (Chapter × ℕ) Refusal) → chapter_told r ≡ chapter_told r' → r ≡ r'
chapter_told_law (Ok (a, n)) (Ok (b, m)) q = cc (chapter_once a b (cc))
chapter_told_law (Ok (a, n)) (Err e) q = cc
chapter_told_law (Err e) (Ok (b, m)) q = cc
chapter_told_law (Err e) (Err f) q = cc

display_told_law : (r r' : Result (ChapterDisplay × ℕ) Refusal) → display_told r ≡ display_told r' → r ≡ r'
display_told_law (Ok (a, n)) (Ok (b, m)) q = cc (display_once a b (cc))
display_told_law (Ok (a, n)) (Err e) q = cc
display_told_law (Err e) (Ok (b, m)) q = cc
display_told_law (Err e) (Err f) q = cc

-- ---- the theorems

pub edition_unique : OneEdition
edition_unique live s start size k = one_reply _ (edition_asked live s start size k) edition_told edition_told_law

pub chapter_unique : OneChapter
chapter_unique live s start size k i = one_reply _ (chapter_asked live s start size k i) chapter_told chapter_told_law

pub display_unique : OneDisplay
display_unique live s start size k i j = one_reply _ (display_asked live s start size k i j) display_told display_told_law

pub chapters_refuse_listed : ChaptersRefuseListed
chapters_refuse_listed =
    record {
      edition = λ live s start size k t e t' p. listed e;
      chapter = λ live s start size k i t e t' p. listed e;
      display = λ live s start size k i j t e t' p. listed e;
    }

pub chapters_honest : ChaptersHonest
chapters_honest = record {
  edition = λ live s start size k t e t' p. answer_honest.of_record live _ s start size _ _ _ e t' p;
  chapter = λ live s start size k i t e t' p. answer_honest.of_record live _ s start size _ _ _ e t' p;
  display = λ live s start size k i j t e t' p. answer_honest.of_record live _ s start size _ _ _ e t' p;
}

pub chapters_live : ChaptersLive
chapters_live = record {
  edition = λ s start size k. record_modes edition_told Err edition_told_law (λ e. refl) _ s start size _ _;
  chapter = λ s start size k i. record_modes chapter_told Err chapter_told_law (λ e. refl) _ s start size _ _;
  display = λ s start size k i j. record_modes display_told Err display_told_law (λ e. refl) _ s start size _ _;
}
