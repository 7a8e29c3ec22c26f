-- What the code's translations are to the definitions.
use Rattle.std.specs.Prelude.{◌≡◌, ℕ, ◌<◌, ◌⊎◌, List, map, length, None, Ok, Err, vec_items, Result}
use Rattle.terms.specs.Meanings.{scope_of}
use Rattle.roles.specs.declared.line_fault.LineFault.{LineFault}
use Rattle.roles.specs.declared.line_fault.LineFault.TheVariants.{Limit, Undeclared, WrongType, Repeated, Underivable, Exhausted}
use Rattle.roles.specs.declared.translation.Translation.{Translation}
use Rattle.roles.specs.declared.translation_fault.TranslationFault.{TranslationFault}
use Rattle.roles.specs.Players.{player_of}
use Rattle.roles.specs.Playing.{Player}
use Rattle.roles.specs.Refusals.{translation_refusal}
use Rattle.roles.specs.Stages.{Stage, place_among}

abbrev pub players_of : Translation → List Player
players_of T = map (player_of T.declarations.terms) (vec_items T.roles)

-- what is declared, and the roles
abbrev pub stage_of : Translation → Stage
stage_of T = record { scope = scope_of T.declarations; players = players_of T }

-- this fault, or want of memory, of which nothing is said
abbrev pub Refused : {A : Type 0} → Result A LineFault → LineFault → Type 0
Refused q (Limit p) = q ≡ Err (Limit p)
Refused q (Undeclared p) = q ≡ Err (Undeclared p)
Refused q (WrongType p) = q ≡ Err (WrongType p)
Refused q (Repeated p) = q ≡ Err (Repeated p)
Refused q (Underivable p n k) = q ≡ Err (Underivable p n k)
Refused q (Exhausted w) = Unit {0}

abbrev pub Comes : Result Stage LineFault → Translation → Result (Unit {0}) LineFault → Type 0
Comes q T (Ok x) = q ≡ Ok (stage_of T)
Comes q T (Err f) = Refused q f

-- a role has its place
abbrev pub FindsRole : ℕ → Result Stage LineFault → Translation → Result ℕ LineFault → Type 0
FindsRole n q T (Ok k) = (q ≡ Ok (stage_of T)) × (k ≡ place_among n (players_of T)) × (k < length (vec_items T.roles))
FindsRole n q T (Err f) = Refused q f

-- the whole answer: a fault that is no refusal is want of memory
abbrev pub Translates : Result Stage TranslationFault → Result Translation TranslationFault → Type 0
Translates q (Ok T) = q ≡ Ok (stage_of T)
Translates q (Err f) = (q ≡ Err f) ⊎ (translation_refusal f ≡ None)
