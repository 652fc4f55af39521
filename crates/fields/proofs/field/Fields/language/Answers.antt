-- `language` meets its contract: the one that decides comes first. Assumes nothing.
use Rattle.std.proofs.Common.{rules}
use Rattle.fields_rules.proofs.Taken.{language_ietf, language_iso}
use Rattle.fields.proofs.field.Fields.language.Goals as goal

pub returns-in-Some : goal.returns-in-Some
returns-in-Some c = language_ietf _ _ _ _ _ c.in-Some.ensures

pub returns-in-None : goal.returns-in-None
returns-in-None c =
    language_iso _ _ _ _ _ c.in-None.ensures c.content-in-None.result c.content-in-None.ensures (search rules)
