-- The chain call beside `owner` (`ChainsLead`). Assumes nothing.
use mathlib.Core.Path.{sym, ap, ◌∙◌}
use lib.ListN.{length}
use Rattle.owner_rules.specs.Owner.{chain_of}
use Rattle.owner_rules.specs.Promise.{owner_reply, links_of}
use Rattle.owner_rules.specs.Theorems.{ChainsLead}
use Rattle.owner_rules.proofs.Links.{links_owned, links_refused}
use Rattle.owner_rules.proofs.Asked.{chain_long, chain_owner, told_refused}
use Rattle.owner_rules.proofs.Found.{owned_found}

pub chains_lead : ChainsLead
chains_lead live s start size parent x t r q t' p g = record {
  same = λ l. p.reply ∙ ap owner_reply (chain_owner live s start size parent x (length t) l) ∙ sym g.reply;
  long = λ l. p.reply ∙ ap owner_reply (chain_long live s start size parent x (length t) l);
  links = λ l o k.
      p.links
      ∙ ap (links_of (length t))
      (chain_owner live s start size parent x (length t) l ∙ owned_found live s start size parent x o k)
      ∙ links_owned (length t) o;
  none = λ e i.
      p.links
      ∙ ap (links_of (length t))
      (told_refused (chain_of live s start size parent x (length t)) e (sym i ∙ p.reply))
      ∙ links_refused (length t) e;
}
