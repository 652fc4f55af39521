-- `listed_kind` meets its contract: a key has the kind of its arm, a range too, and what is between them is binary.
-- Each goal is one end of the match's tests. The two numbers are the first and the last id that come to it by the
-- comparisons; the keys among them were taken out before. Assumes nothing.
use native.Mathlib.Omega.{arith}
use borrow.Author.Rules.{rules}
use Rattle.kinds.specs.Elements.{elements}
use Rattle.kinds.specs.Kinds.{member}
use Rattle.kinds.specs.declared.kind.Kind.TheVariants.{Master, Int, Uint, String, Utf8, Binary, Float, Date}
use Rattle.kinds.proofs.Runs.{NoKey, key, ranged}
use Rattle.kind_decision.proofs.listed.listed_kind.Goals as goal

pub returns-in-251 : goal.returns-in-251
unfolding elements
returns-in-251 c = key Int _ c.in-251.is

pub returns-in-133 : goal.returns-in-133
unfolding elements
returns-in-133 c = key Utf8 _ c.in-133.is

pub returns-in-17505 : goal.returns-in-17505
unfolding elements
returns-in-17505 c = key Date _ c.in-17505.is

pub returns-in_default : goal.returns-in_default
unfolding elements NoKey member
returns-in_default c = ranged Binary 0x0 0x87 (omega arith) (omega arith) tt (search rules)

pub returns-in_default-2 : goal.returns-in_default-2
unfolding elements NoKey member
returns-in_default-2 c = ranged Binary 0x8A 0x8D (omega arith) (omega arith) tt (search rules)

pub returns-in_default-3 : goal.returns-in_default-3
unfolding elements NoKey member
returns-in_default-3 c = ranged Binary 0x90 0x90 (omega arith) (omega arith) tt (search rules)

pub returns-in_default-4 : goal.returns-in_default-4
unfolding elements NoKey member
returns-in_default-4 c = ranged Binary 0x93 0x95 (omega arith) (omega arith) tt (search rules)

pub returns-in_default-5 : goal.returns-in_default-5
unfolding elements NoKey member
returns-in_default-5 c = ranged Binary 0x99 0x99 (omega arith) (omega arith) tt (search rules)

pub returns-in_default-6 : goal.returns-in_default-6
unfolding elements NoKey member
returns-in_default-6 c = ranged Binary 0x9E 0xA9 (omega arith) (omega arith) tt (search rules)

pub returns-in_default-7 : goal.returns-in_default-7
unfolding elements NoKey member
returns-in_default-7 c = ranged Binary 0xAC 0xB1 (omega arith) (omega arith) tt (search rules)

pub returns-in_default-8 : goal.returns-in_default-8
unfolding elements NoKey member
returns-in_default-8 c = ranged Binary 0xB4 0xB4 (omega arith) (omega arith) tt (search rules)

pub returns-in_default-9 : goal.returns-in_default-9
unfolding elements NoKey member
returns-in_default-9 c = ranged Binary 0xB8 0xB8 (omega arith) (omega arith) tt (search rules)

pub returns-in_default-10 : goal.returns-in_default-10
unfolding elements NoKey member
returns-in_default-10 c = ranged Binary 0xBB 0xC5 (omega arith) (omega arith) tt (search rules)

pub returns-in_default-11 : goal.returns-in_default-11
unfolding elements NoKey member
returns-in_default-11 c = ranged Binary 0xD0 0xDF (omega arith) (omega arith) tt (search rules)

pub returns-in_default-12 : goal.returns-in_default-12
unfolding elements NoKey member
returns-in_default-12 c = ranged Binary 0xEC 0xEC (omega arith) (omega arith) tt (search rules)

pub returns-in_default-13 : goal.returns-in_default-13
unfolding elements NoKey member
returns-in_default-13 c = ranged Binary 0xEF 0xEF (omega arith) (omega arith) tt (search rules)

pub returns-in_default-14 : goal.returns-in_default-14
unfolding elements NoKey member
returns-in_default-14 c = ranged Binary 0xF2 0x4284 (omega arith) (omega arith) tt (search rules)

pub returns-in_default-15 : goal.returns-in_default-15
unfolding elements NoKey member
returns-in_default-15 c = ranged Binary 0x4288 0x42F1 (omega arith) (omega arith) tt (search rules)

pub returns-in_default-16 : goal.returns-in_default-16
unfolding elements NoKey member
returns-in_default-16 c = ranged Binary 0x42F4 0x437B (omega arith) (omega arith) tt (search rules)

pub returns-in_default-17 : goal.returns-in_default-17
unfolding elements NoKey member
returns-in_default-17 c = ranged Binary 0x437F 0x4479 (omega arith) (omega arith) tt (search rules)

pub returns-in_default-18 : goal.returns-in_default-18
unfolding elements NoKey member
returns-in_default-18 c = ranged Binary 0x447C 0x45BB (omega arith) (omega arith) tt (search rules)

pub returns-in_default-19 : goal.returns-in_default-19
unfolding elements NoKey member
returns-in_default-19 c = ranged Binary 0x45BE 0x465F (omega arith) (omega arith) tt (search rules)

pub returns-in_default-20 : goal.returns-in_default-20
unfolding elements NoKey member
returns-in_default-20 c = ranged Binary 0x4663 0x47E4 (omega arith) (omega arith) tt (search rules)

pub returns-in_default-21 : goal.returns-in_default-21
unfolding elements NoKey member
returns-in_default-21 c = ranged Binary 0x47E7 0x5030 (omega arith) (omega arith) tt (search rules)

pub returns-in_default-22 : goal.returns-in_default-22
unfolding elements NoKey member
returns-in_default-22 c = ranged Binary 0x5036 0x53B7 (omega arith) (omega arith) tt (search rules)

pub returns-in_default-23 : goal.returns-in_default-23
unfolding elements NoKey member
returns-in_default-23 c = ranged Binary 0x53BA 0x54B1 (omega arith) (omega arith) tt (search rules)

pub returns-in_default-24 : goal.returns-in_default-24
unfolding elements NoKey member
returns-in_default-24 c = ranged Binary 0x54B4 0x54B9 (omega arith) (omega arith) tt (search rules)

pub returns-in_default-25 : goal.returns-in_default-25
unfolding elements NoKey member
returns-in_default-25 c = ranged Binary 0x54BC 0x55AF (omega arith) (omega arith) tt (search rules)

pub returns-in_default-26 : goal.returns-in_default-26
unfolding elements NoKey member
returns-in_default-26 c = ranged Binary 0x55BE 0x55CF (omega arith) (omega arith) tt (search rules)

pub returns-in_default-27 : goal.returns-in_default-27
unfolding elements NoKey member
returns-in_default-27 c = ranged Binary 0x55DB 0x63C2 (omega arith) (omega arith) tt (search rules)

pub returns-in_default-28 : goal.returns-in_default-28
unfolding elements NoKey member
returns-in_default-28 c = ranged Binary 0x63C7 0x73C3 (omega arith) (omega arith) tt (search rules)

pub returns-in_default-29 : goal.returns-in_default-29
unfolding elements NoKey member
returns-in_default-29 c = ranged Binary 0x73C6 0x22B59B (omega arith) (omega arith) tt (search rules)

pub returns-in_default-30 : goal.returns-in_default-30
unfolding elements NoKey member
returns-in_default-30 c = ranged Binary 0x22B59E 0xFFFFFFFF (omega arith) (omega arith) tt (search rules)

pub returns-in-181 : goal.returns-in-181
unfolding elements
returns-in-181 c = key Float _ (search rules)

pub returns-in-181-2 : goal.returns-in-181-2
unfolding elements NoKey member
returns-in-181-2 c = ranged Float 0x55D0 0x55DA (omega arith) (omega arith) tt (search rules)

pub returns-in-134 : goal.returns-in-134
unfolding elements
returns-in-134 c = key String _ (search rules)

pub returns-in-134-2 : goal.returns-in-134-2
unfolding elements NoKey member
returns-in-134-2 c = ranged String 0x437C 0x437E (omega arith) (omega arith) tt (search rules)

pub returns-in-134-3 : goal.returns-in-134-3
unfolding elements NoKey member
returns-in-134-3 c = ranged String 0x447A 0x447B (omega arith) (omega arith) tt (search rules)

pub returns-in-134-4 : goal.returns-in-134-4
unfolding elements NoKey member
returns-in-134-4 c = ranged String 0x22B59C 0x22B59D (omega arith) (omega arith) tt (search rules)

pub returns-in-131 : goal.returns-in-131
unfolding elements
returns-in-131 c = key Uint _ (search rules)

pub returns-in-131-2 : goal.returns-in-131-2
unfolding elements NoKey member
returns-in-131-2 c = ranged Uint 0x88 0x89 (omega arith) (omega arith) tt (search rules)

pub returns-in-131-3 : goal.returns-in-131-3
unfolding elements NoKey member
returns-in-131-3 c = ranged Uint 0x91 0x92 (omega arith) (omega arith) tt (search rules)

pub returns-in-131-4 : goal.returns-in-131-4
unfolding elements NoKey member
returns-in-131-4 c = ranged Uint 0x96 0x98 (omega arith) (omega arith) tt (search rules)

pub returns-in-131-5 : goal.returns-in-131-5
unfolding elements NoKey member
returns-in-131-5 c = ranged Uint 0x9A 0x9D (omega arith) (omega arith) tt (search rules)

pub returns-in-131-6 : goal.returns-in-131-6
unfolding elements NoKey member
returns-in-131-6 c = ranged Uint 0xAA 0xAB (omega arith) (omega arith) tt (search rules)

pub returns-in-131-7 : goal.returns-in-131-7
unfolding elements NoKey member
returns-in-131-7 c = ranged Uint 0xB2 0xB3 (omega arith) (omega arith) tt (search rules)

pub returns-in-131-8 : goal.returns-in-131-8
unfolding elements NoKey member
returns-in-131-8 c = ranged Uint 0xB9 0xBA (omega arith) (omega arith) tt (search rules)

pub returns-in-131-9 : goal.returns-in-131-9
unfolding elements NoKey member
returns-in-131-9 c = ranged Uint 0xC6 0xCF (omega arith) (omega arith) tt (search rules)

pub returns-in-131-10 : goal.returns-in-131-10
unfolding elements NoKey member
returns-in-131-10 c = ranged Uint 0xE5 0xE7 (omega arith) (omega arith) tt (search rules)

pub returns-in-131-11 : goal.returns-in-131-11
unfolding elements NoKey member
returns-in-131-11 c = ranged Uint 0xEA 0xEB (omega arith) (omega arith) tt (search rules)

pub returns-in-131-12 : goal.returns-in-131-12
unfolding elements NoKey member
returns-in-131-12 c = ranged Uint 0xED 0xEE (omega arith) (omega arith) tt (search rules)

pub returns-in-131-13 : goal.returns-in-131-13
unfolding elements NoKey member
returns-in-131-13 c = ranged Uint 0xF0 0xF1 (omega arith) (omega arith) tt (search rules)

pub returns-in-131-14 : goal.returns-in-131-14
unfolding elements NoKey member
returns-in-131-14 c = ranged Uint 0x4285 0x4287 (omega arith) (omega arith) tt (search rules)

pub returns-in-131-15 : goal.returns-in-131-15
unfolding elements NoKey member
returns-in-131-15 c = ranged Uint 0x42F2 0x42F3 (omega arith) (omega arith) tt (search rules)

pub returns-in-131-16 : goal.returns-in-131-16
unfolding elements NoKey member
returns-in-131-16 c = ranged Uint 0x45BC 0x45BD (omega arith) (omega arith) tt (search rules)

pub returns-in-131-17 : goal.returns-in-131-17
unfolding elements NoKey member
returns-in-131-17 c = ranged Uint 0x4660 0x4662 (omega arith) (omega arith) tt (search rules)

pub returns-in-131-18 : goal.returns-in-131-18
unfolding elements NoKey member
returns-in-131-18 c = ranged Uint 0x47E5 0x47E6 (omega arith) (omega arith) tt (search rules)

pub returns-in-131-19 : goal.returns-in-131-19
unfolding elements NoKey member
returns-in-131-19 c = ranged Uint 0x5031 0x5033 (omega arith) (omega arith) tt (search rules)

pub returns-in-131-20 : goal.returns-in-131-20
unfolding elements NoKey member
returns-in-131-20 c = ranged Uint 0x53B8 0x53B9 (omega arith) (omega arith) tt (search rules)

pub returns-in-131-21 : goal.returns-in-131-21
unfolding elements NoKey member
returns-in-131-21 c = ranged Uint 0x54B2 0x54B3 (omega arith) (omega arith) tt (search rules)

pub returns-in-131-22 : goal.returns-in-131-22
unfolding elements NoKey member
returns-in-131-22 c = ranged Uint 0x54BA 0x54BB (omega arith) (omega arith) tt (search rules)

pub returns-in-131-23 : goal.returns-in-131-23
unfolding elements NoKey member
returns-in-131-23 c = ranged Uint 0x55B0 0x55BD (omega arith) (omega arith) tt (search rules)

pub returns-in-131-24 : goal.returns-in-131-24
unfolding elements NoKey member
returns-in-131-24 c = ranged Uint 0x63C3 0x63C6 (omega arith) (omega arith) tt (search rules)

pub returns-in-131-25 : goal.returns-in-131-25
unfolding elements NoKey member
returns-in-131-25 c = ranged Uint 0x73C4 0x73C5 (omega arith) (omega arith) tt (search rules)

pub returns-in-128 : goal.returns-in-128
unfolding elements
returns-in-128 c = key Master _ (search rules)

pub returns-in-128-2 : goal.returns-in-128-2
unfolding elements NoKey member
returns-in-128-2 c = ranged Master 0x8E 0x8F (omega arith) (omega arith) tt (search rules)

pub returns-in-128-3 : goal.returns-in-128-3
unfolding elements NoKey member
returns-in-128-3 c = ranged Master 0xB5 0xB7 (omega arith) (omega arith) tt (search rules)

pub returns-in-128-4 : goal.returns-in-128-4
unfolding elements NoKey member
returns-in-128-4 c = ranged Master 0xE0 0xE4 (omega arith) (omega arith) tt (search rules)

pub returns-in-128-5 : goal.returns-in-128-5
unfolding elements NoKey member
returns-in-128-5 c = ranged Master 0xE8 0xE9 (omega arith) (omega arith) tt (search rules)

pub returns-in-128-6 : goal.returns-in-128-6
unfolding elements NoKey member
returns-in-128-6 c = ranged Master 0x5034 0x5035 (omega arith) (omega arith) tt (search rules)
