-- What a `Lead` tells of the octets behind a character's first, in the grammar's terms.
use Rattle.std.specs.Prelude.{List, [], ◌∷◌, replicate, Option, Some, None}
use Rattle.utf8.specs.Utf8.{Alternative, range, utf8_tail}
use Rattle.utf8.specs.declared.Lead.{Lead}

-- The ranges of those octets: that of the second, and the tails.
abbrev pub others : Lead → Alternative
others l = range l.low l.high ∷ replicate l.tails utf8_tail

-- What is left behind a first octet: nothing begins so, or the octets that the lead tells of.
abbrev pub noted : Option Lead → List Alternative
noted None = []
noted (Some l) = others l ∷ []
