-- `cut_of` meets its contract: a cut for each kind. Assumes nothing.
use mathlib.Core.Path.{refl}
use native.Mathlib.Omega.{arith}
use Rattle.rowtext.specs.Lines.{kind_word}
use Rattle.rowtext.proofs.Words.{cut_is, no_kind}
use Rattle.rowtext.proofs.row.cut_of.Goals as goal

pub returns-in_default : goal.returns-in_default
returns-in_default c =
    no_kind c.args.kind (omega arith) (omega arith) (omega arith) (omega arith) (omega arith) (omega arith)
    (omega arith) (omega arith)

pub returns-in-1 : goal.returns-in-1
unfolding kind_word
returns-in-1 c = cut_is c.in-1.is refl refl

pub returns-in-2 : goal.returns-in-2
unfolding kind_word
returns-in-2 c = cut_is c.in-2.is refl refl

pub returns-in-3 : goal.returns-in-3
unfolding kind_word
returns-in-3 c = cut_is c.in-3.is refl refl

pub returns-in-4 : goal.returns-in-4
unfolding kind_word
returns-in-4 c = cut_is c.in-4.is refl refl

pub returns-in-5 : goal.returns-in-5
unfolding kind_word
returns-in-5 c = cut_is c.in-5.is refl refl

pub returns-in-6 : goal.returns-in-6
unfolding kind_word
returns-in-6 c = cut_is c.in-6.is refl refl

pub returns-in-7 : goal.returns-in-7
unfolding kind_word
returns-in-7 c = cut_is c.in-7.is refl refl

pub returns-in-8 : goal.returns-in-8
unfolding kind_word
returns-in-8 c = cut_is c.in-8.is refl refl
