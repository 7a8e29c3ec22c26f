-- What the actions of a program are to the model.
use Rattle.std.specs.Prelude.{ℕ, [], ◌∷◌, Some, None, Option, slice_index}
use Rattle.model.specs.Trees.{Head, tupled, crypted, applied}
use Rattle.model.specs.Roles.{Act, give, new, hear, say, same, make, split, unlock}
use Rattle.program.specs.declared.kind.Kind.{Kind}
use Rattle.program.specs.declared.kind.Kind.TheVariants as kinds
use Rattle.program.specs.declared.parts.Parts.{Parts}
use Rattle.program.specs.declared.action.Action.{Action}
use Rattle.program.specs.declared.action.Action.TheVariants.{Give, New, Hear, Say, Same, Crypt, Tuple, Apply, OpenCrypt, OpenTuple, OpenApply}
use Rattle.program.specs.declared.action.Row.{Row}
use Rattle.program.specs.Parts.{parts_of}

abbrev pub head_of : Kind → Head
head_of kinds.Tuple = tupled
head_of kinds.Crypt = crypted
head_of (kinds.Apply f) = applied f

-- the head of what is opened: an application's, or a tuple's
abbrev pub opened_head : Option ℕ → Head
opened_head None = tupled
opened_head (Some f) = applied f

abbrev pub act_of : Action → Act
act_of (Give t) = give t
act_of (New t) = new t
act_of (Hear t) = hear t
act_of (Say r) = say r
act_of (Same l r) = same l r
act_of (Crypt t x k) = make t crypted (x ∷ k ∷ [])
act_of (Tuple t ps) = make t tupled (parts_of ps)
act_of (Apply t f ps) = make t (applied f) (parts_of ps)
act_of (OpenCrypt t s k) = unlock t s k
act_of (OpenTuple f n s) = split f n tupled s
act_of (OpenApply f n s g) = split f n (applied g) s

abbrev pub row_act : Row → Act
row_act r = act_of r.action

-- the action that builds a compound of a kind
abbrev pub built : ℕ → Kind → Parts → Action
built t kinds.Tuple ps = Tuple t ps
built t kinds.Crypt ps = Crypt t (slice_index (parts_of ps) 0) (slice_index (parts_of ps) 1)
built t (kinds.Apply f) ps = Apply t f ps

-- the action that opens a tuple, or an application
abbrev pub opened : ℕ → ℕ → ℕ → Option ℕ → Action
opened f n s None = OpenTuple f n s
opened f n s (Some g) = OpenApply f n s g
