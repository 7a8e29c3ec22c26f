-- Sessions of plain runs: a run of each role's program over one space, and any list of calls.
use Rattle.std.specs.Prelude.{ℕ, ◌-◌, true, cond, not, List, [], ◌∷◌, ◌==◌, nat_le, nat_lt}
use Rattle.std.proofs.Math.Option.{none as nothing}
use Rattle.model.specs.Trees.{Tree}
use Rattle.model.specs.Runs.{empty}
use Rattle.model.specs.Specifications.{Specification}
use Rattle.model.specs.Programs.{rows_of, program}
use Rattle.model.specs.Sessions.{View, State, Event, begin, say, hear, build, other, Answer, taken, declined, outside, begins_next}
use Rattle.run.specs.Plain.{Plain, new_plain, begin as to_begin, say as to_say, hear as to_hear, After, call}

-- the space left, and the run of each role
pub record Playing : Type 0 where
  pub space : ℕ
  pub runs : ℕ → Plain

-- a run of the model, as a plain one: it keeps no terms, and has rows in place of stages
abbrev pub plain_of : View → Plain
plain_of v =
    record { begun = not (begins_next v.ahead); done = v.done; ahead = rows_of v.ahead; memory = v.memory; numbers = v.numbers }

-- and so a whole session of the model
abbrev pub plays_of : State → Playing
plays_of s = record { space = s.space; runs = λ r. plain_of (s.views r) }

-- where there is no role, it is never anything's turn
abbrev pub no_run : Plain
no_run = record { begun = true; done = 0; ahead = []; memory = empty; numbers = [] }

-- new runs of the programs of a specification's roles
abbrev pub new_plays : Specification → ℕ → Playing
new_plays S space = record { space = space; runs = λ r. cond (nat_lt r S.roles) (new_plain (program S r)) no_run }

abbrev pub put : (ℕ → Plain) → ℕ → Plain → ℕ → Plain
put f r w q = cond (r == q) w (f q)

-- what a call of one run leaves, and its answer
abbrev pub turned : Playing → ℕ → After → Playing × Answer
turned p r a = (record { space = a.space; runs = put p.runs r a.run }, a.reply)

-- one call
abbrev pub play : (Tree → ℕ) → Playing → Event → Playing × Answer
play c p (begin r hs ns) = turned p r (call c (p.runs r) p.space (to_begin hs ns))
play c p (say r) = turned p r (call c (p.runs r) p.space to_say)
play c p (hear r h) = turned p r (call c (p.runs r) p.space (to_hear h))
play c p (build v) =
    cond (nat_le (c v) p.space) (record { space = p.space - c v; runs = p.runs }, taken nothing) (p, declined 15 0)
play c p other = (p, outside)

-- a list of calls: what is left after it, and the answers
abbrev pub after : (Tree → ℕ) → Playing → List Event → Playing
after c p [] = p
after c p (e ∷ es) = after c (play c p e).0 es

abbrev pub answers : (Tree → ℕ) → Playing → List Event → List Answer
answers c p [] = []
answers c p (e ∷ es) = (play c p e).1 ∷ answers c (play c p e).0 es
