-- That the rows below a master can be read has one proof at most, so that a struct may hold it.
use Rattle.std.specs.Prelude.{ℕ, List, [], ◌∷◌}
use Rattle.std.proofs.Props.{props}
use Rattle.bodies_rules.specs.Bodies.{Told, body, refused}
use Rattle.bodies_rules.specs.declared.body.Body.TheVariants.{Value, Master}
use Rattle.elements_rules.specs.Stands.{IsValue}
use Rattle.elements_rules.specs.Theorems.{Each, Sound}
use Rattle.elements_rules.specs.declared.row.Row.{Row}
use Rattle.fields_rules.specs.Contract.{Readable}
use Rattle.fields_rules.specs.declared.child.Below.{Below}

value_alone : (b : Told) → IsProp (IsValue b)
value_alone (body (Value v)) = hlevel props
value_alone (body Master) = hlevel props
value_alone (refused cause) = hlevel props

sound_alone : (s : List ℕ) (r : Row) → IsProp (Sound s r)
sound_alone s r = hlevel (props, value_alone)

each_alone : (s : List ℕ) (rs : List Row) → IsProp (Each (Sound s) rs)
unfolding Each
each_alone s [] = hlevel props
each_alone s (r ∷ rs) = let a = sound_alone s r in let b = each_alone s rs in hlevel (props, a, b)

pub readable_alone : (s t : List ℕ) (b : Below) → IsProp (Readable s t b)
readable_alone s t b = hlevel (props, each_alone)
