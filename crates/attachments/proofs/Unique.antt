-- Any two replies and tables that a promise permits to one question are equal, its refusals are listed and honest, and
-- what the two modes have in common. Assumes nothing.
use mathlib.Core.Path.{◌≡◌, refl}
use Rattle.refusals.proofs.Listed.{listed}
use Rattle.fields_rules.proofs.Once.{content_once}
use Rattle.locate_rules.proofs.Honest.{answer_honest}
use Rattle.locate_rules.proofs.Unique.{one_reply}
use Rattle.locate_rules.proofs.Live.{record_modes}
use Rattle.attachments.specs.Told.{attachment_values, attachment_told}
use Rattle.attachments.specs.Promise.{attachment_asked}
use Rattle.attachments.specs.Theorems.{OneAttachment, AttachmentsRefuseListed, AttachmentsHonest}
use Rattle.attachments.specs.Theorems.{AttachmentsLive}
use Rattle.attachments.specs.declared.attachment.Attachment.{Attachment}
use Rattle.std.proofs.Common.{Result, Ok, Err}
use Rattle.refusals.specs.declared.refusal.Refusal.{Refusal}
use Prim.Native.Nat.{ℕ}

-- The fields tell the record, and document 01's values the reply.
attachment_once : (a b : Attachment) → attachment_values a ≡ attachment_values b → a ≡ b
attachment_once a b q i =
    record {
      description = content_once a.description b.description (cc) i;
      name = content_once a.name b.name (cc) i;
      mime_type = content_once a.mime_type b.mime_type (cc) i;
      «data» = content_once a.«data» b.«data» (cc) i;
    }

attachment_told_law : (r r' : Result (Attachment × ℕ) Refusal) → attachment_told r ≡ attachment_told r' → r ≡ r'
attachment_told_law (Ok (a, n)) (Ok (b, m)) q = cc (attachment_once a b (cc))
attachment_told_law (Ok (a, n)) (Err e) q = cc
attachment_told_law (Err e) (Ok (b, m)) q = cc
attachment_told_law (Err e) (Err f) q = cc

pub attachment_unique : OneAttachment
attachment_unique live s start size k = one_reply _ (attachment_asked live s start size k) attachment_told attachment_told_law

pub attachments_refuse_listed : AttachmentsRefuseListed
attachments_refuse_listed = record { attachment = λ live s start size k t e t' p. listed e }

pub attachments_honest : AttachmentsHonest
attachments_honest = record {
  attachment = λ live s start size k t e t' p. answer_honest.of_record live _ s start size _ _ _ e t' p;
}

pub attachments_live : AttachmentsLive
attachments_live = record {
  attachment = λ s start size k.
      record_modes attachment_told Err attachment_told_law (λ e. refl) _ s start size _ _;
}
