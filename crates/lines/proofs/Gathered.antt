-- What is gathered in several pieces is gathered as one.
use mathlib.Core.Logic.{inl, inr}
use mathlib.Core.Path.{◌≡◌, sym, ap, ◌∙◌, subst}
use Rattle.std.proofs.Common.{arith, ℕ, ◌<◌, take, get_or, ◌+◌, ◌≤◌, List, [], ◌∷◌, ◌++◌, length, Option, Some, None, IfSome}
use Rattle.std.proofs.lemmas.List.{append-nil, append_assoc, length-append, flat_map_more, take_more}
use Rattle.std.specs.List.{concat, flat_map, FoldsTo}
use Rattle.std.specs.Fmt.{WritesInCalls, WritesText}
use Rattle.lines.specs.Gathered.{Gathers, Takes, TakesOrFails, StaysFailed, two_digits, in_hex}
use Rattle.lines.proofs.Kept.{keeps_same, keeps_more}

-- Nothing put leaves what was gathered.
pub gathers_nothing : (old : Option (List ℕ)) → Gathers old [] old
gathers_nothing None = tt
gathers_nothing (Some held) = λ room. ap Some (sym (append-nil held))

pub gathers_more : (a : Option (List ℕ)) (x : List ℕ) (b : Option (List ℕ)) (y : List ℕ) (c : Option (List ℕ)) → Gathers a x b → Gathers b y c → Gathers a (x ++ y) c
gathers_more None x b y c one two = tt
gathers_more (Some held) x b y c one two = λ room.
    let sum : length held + length (x ++ y) ≡ length (held ++ x) + length y = grind (arith, length-append held x, length-append x y) in
    let first : length held + length x ≤ 65536 = grind (arith, length-append x y) in
    let both : length (held ++ x) + length y ≤ 65536 = grind (arith, sum) in
    subst (λ (b : Option (List ℕ)). Gathers b y c) (one first) two both ∙ ap Some (append_assoc held x y)

pub takes_more : (a : Option (List ℕ)) (x : List ℕ) (b : Option (List ℕ)) (y : List ℕ) (c : Option (List ℕ)) → Takes a x b → Takes b y c → Takes a (x ++ y) c
takes_more a x b y c one two = (gathers_more a x b y c one.0 two.0, keeps_more a x b y c one.1 two.1)

-- A text written by several calls is gathered whole.
takes_calls : (a : Option (List ℕ)) (parts : List (List ℕ)) (b : Option (List ℕ)) → FoldsTo Takes a parts b → Takes a (concat parts) b
takes_calls a [] b same = subst (Takes a []) same (gathers_nothing a, keeps_same a)
takes_calls a (part ∷ parts) b calls = takes_more a part calls.0 (concat parts) b calls.1 (takes_calls calls.0 parts b calls.2)

pub takes_written : (a : Option (List ℕ)) (text : List ℕ) (b : Option (List ℕ)) → WritesInCalls Takes a text b → Takes a text b
takes_written a text b written = subst (λ (text : List ℕ). Takes a text b) written.whole (takes_calls a written.parts b written.calls)

-- A text that is displayed is gathered whole.
pub takes_text : (a : Option (List ℕ)) (text : Option (List ℕ)) (b : Option (List ℕ)) → WritesText Takes a text b → IfSome text (λ text. TakesOrFails a text b)
takes_text a None b written = tt
takes_text a (Some text) b written = inr (takes_written a text b written)

-- What may fail, and then stays failed, is gathered as one too.
pub takes_on : (a : Option (List ℕ)) (x : List ℕ) (b : Option (List ℕ)) (y : List ℕ) (c : Option (List ℕ)) → TakesOrFails a x b → TakesOrFails b y c → StaysFailed b c → TakesOrFails a (x ++ y) c
takes_on a x b y c (inl failed) two stays = inl (stays failed)
takes_on a x b y c (inr one) (inl failed) stays = inl failed
takes_on a x b y c (inr one) (inr two) stays = inr (takes_more a x b y c one two)

-- One more byte in hexadecimal digits, behind those so far.
pub hex_more : (a : Option (List ℕ)) (bytes : List ℕ) (i : ℕ) (b c : Option (List ℕ))
    → i < length bytes → TakesOrFails a (flat_map two_digits (take i bytes)) b
    → TakesOrFails b (two_digits (get_or bytes i 0)) c → StaysFailed b c
    → TakesOrFails a (flat_map two_digits (take (i + 1) bytes)) c
hex_more a bytes i b c in_bytes so_far more stays =
    let joined : flat_map two_digits (take i bytes) ++ two_digits (get_or bytes i 0) ≡ flat_map two_digits (take (i + 1) bytes) =
    flat_map_more two_digits [] (take i bytes) (get_or bytes i 0) ∙ ap (λ t. flat_map two_digits t) (sym (take_more bytes i 0 in_bytes)) in
    subst (λ (t : List ℕ). TakesOrFails a t c) joined (takes_on a (flat_map two_digits (take i bytes)) b (two_digits (get_or bytes i 0)) c so_far more stays)

-- Where there are no bytes, `-` stands for them.
pub hex_none : (a : Option (List ℕ)) (bytes : List ℕ) (b c : Option (List ℕ)) → length bytes ≡ 0 → Takes a (45 ∷ []) b → TakesOrFails b (flat_map two_digits bytes) c → StaysFailed b c → TakesOrFails a (in_hex bytes) c
hex_none a [] b c none dash rest stays = takes_on a (45 ∷ []) b [] c (inr dash) rest stays
hex_none a (byte ∷ bytes) b c none dash rest stays = absurd (omega (arith, none))

pub hex_some : (a : Option (List ℕ)) (bytes : List ℕ) (c : Option (List ℕ)) → 0 < length bytes → TakesOrFails a (flat_map two_digits bytes) c → TakesOrFails a (in_hex bytes) c
hex_some a [] c some rest = absurd (omega (arith, some))
hex_some a (byte ∷ bytes) c some rest = rest
