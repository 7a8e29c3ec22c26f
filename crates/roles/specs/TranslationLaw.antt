-- The law of translation: programs are the model's, and a text is refused as underivable exactly if the message of a line does not derive for its sender.
use Rattle.std.specs.Prelude.{◌≡◌, ℕ, suc, ◌<◌, ◌⊎◌, List, [], ◌∷◌, ◌++◌, length, take, None, Ok, Err, slice_index_or, Result}
use Rattle.model.specs.Trees as model
use Rattle.model.specs.Trees.{Within}
use Rattle.model.specs.Deduction.{Derives}
use Rattle.model.specs.Blame.{Blame}
use Rattle.model.specs.Lives.{Life, says, Holdings}
use Rattle.model.specs.Specifications.{Specification, message, makes, own_from, life_to}
use Rattle.model.specs.Programs.{Accepted, program}
use Rattle.model.specs.NamesLaw.{MakesOnce}
use Rattle.text.specs.Trees.{Tree}
use Rattle.text.specs.Reading.{reading}
use Rattle.syntax.specs.Shape.{shape}
use Rattle.syntax.specs.Places.{term_place}
use Rattle.syntax.specs.Specs as syntax
use Rattle.syntax.specs.Specs.{Lined}
use Rattle.terms.specs.declared.limits.Limits.{Limits}
use Rattle.terms.specs.Declaring.{declared}
use Rattle.terms.specs.Scope.{Scope}
use Rattle.roles.specs.declared.line_fault.LineFault.TheVariants.{Underivable}
use Rattle.roles.specs.declared.translation.Translation.{Translation}
use Rattle.roles.specs.declared.translation_fault.TranslationFault.{TranslationFault}
use Rattle.roles.specs.declared.translation_fault.TranslationFault.TheVariants.{Lines}
use Rattle.roles.specs.LineReadiness.{terms_with, Ready}
use Rattle.roles.specs.Playing.{Player}
use Rattle.roles.specs.Refusals.{translation_refusal}
use Rattle.roles.specs.Stages.{Stage, lines}
use Rattle.roles.specs.Staging.{stage_of}
use Rattle.roles.specs.Specified.{place_in, numbered, role_names, specified}

-- before any line
abbrev pub no_roles : Scope → Stage
no_roles U = record { scope = U; players = [] }

-- the text spells this specification, whose declarations are good
pub record Declares (limits : Limits) (text : List ℕ) (X : syntax.Specification) (U : Scope) : Type 0 where
  pub tree : Tree
  pub read : reading text ≡ Ok tree
  pub shaped : shape text tree ≡ Ok X
  pub scope : declared text limits X ≡ Ok U

-- a role's name, party and program are those of the r-th role of the specification
pub record Performs (S : Specification) (r name : ℕ) (p : Player) : Type 0 where
  pub named : p.name ≡ name
  pub party : p.party ≡ S.party r
  pub rows : p.rows ≡ program S r

-- what comes of lines that are accepted is what the model says of the specification that they stand for
pub record Translated (text : List ℕ) (U : Scope) (ls : List Lined) (G : Stage) : Type 0 where
  pub accepted : Accepted (specified text U ls)
  pub names : MakesOnce (specified text U ls)
  pub many : length G.players ≡ (specified text U ls).roles
  pub each : (r : ℕ) (p : Player) → r < length G.players → Performs (specified text U ls) r (slice_index_or (role_names text U ls) r 0) (slice_index_or G.players r p)

-- a role's life in the first k lines, and what it holds when it says the next one
abbrev pub life_before : Specification → ℕ → ℕ → Life
life_before S r k = life_to S r (own_from S r 1 (take k S.lines))

abbrev pub holds_at : Specification → ℕ → ℕ → model.Tree → Type 0
holds_at S r k = Holdings (says (life_before S r k) (makes S (suc k)) (message S (suc k)))

-- the specification up to a line, and the message that its sender says in it
module _ (text : List ℕ) (U : Scope) (before : List Lined) (l : Lined) where
  abbrev pub to_here : Specification
  to_here = specified text U (before ++ (l ∷ []))

  abbrev pub sent_message : model.Tree
  sent_message = message to_here (suc (length before))

  -- a term derives for the party of this name, when it says the message
  abbrev pub DerivesFor : ℕ → model.Tree → Type 0
  DerivesFor sender t =
      let r = place_in sender (role_names text U (before ++ (l ∷ []))) in
      Derives (to_here.party r) (holds_at to_here r (length before)) t

  -- a term is to blame that this party cannot derive the message
  abbrev pub BlamedFor : ℕ → model.Tree → Type 0
  BlamedFor sender u =
      let r = place_in sender (role_names text U (before ++ (l ∷ []))) in
      Blame (to_here.party r) (holds_at to_here r (length before)) sent_message u

-- a line of some: those before it are accepted, and it is ready
pub record Reached (limits : Limits) (text : List ℕ) (U : Scope) (ls : List Lined) : Type 0 where
  pub before : List Lined
  pub here : Lined
  pub after : List Lined
  pub split : ls ≡ before ++ (here ∷ after)
  pub stage : Stage
  pub accepted : lines limits text [] before (no_roles U) ≡ Ok stage
  pub ready : Ready limits text before here stage

-- the message of such a line does not derive for its sender: where it stands, the sender's number in the order of roles, and the number of the term that is to blame,
-- which stands within the message and does not derive either
module _ (limits : Limits) (text : List ℕ) (U : Scope) (ls : List Lined) (r : Reached limits text U ls) where
  abbrev pub SenderDerives : model.Tree → Type 0
  SenderDerives u = DerivesFor text U r.before r.here r.ready.sender u

  abbrev pub SenderLacks : Type 0
  SenderLacks = ¬ SenderDerives (sent_message text U r.before r.here)

  abbrev pub sender_place : ℕ
  sender_place = place_in r.ready.sender (role_names text U (r.before ++ (r.here ∷ [])))

  pub record Blames (at role term : ℕ) : Type 0 where
    pub lacks : SenderLacks
    pub stands : at ≡ term_place r.here.message
    pub sends : role ≡ sender_place
    pub first : (none : model.Tree) → BlamedFor text U r.before r.here r.ready.sender (slice_index_or (terms_with text r.here.message r.stage) term none)
    pub fails : (none : model.Tree) → ¬ SenderDerives (slice_index_or (terms_with text r.here.message r.stage) term none)
    pub within : (none : model.Tree) → Within (slice_index_or (terms_with text r.here.message r.stage) term none) (sent_message text U r.before r.here)

-- a translation is that of the specification that the text stands for: each role's program is the model's, and each message derives for its sender when it is said
pub record Renders (limits : Limits) (text : List ℕ) (T : Translation) : Type 0 where
  pub spec : syntax.Specification
  pub scope : Scope
  pub declares : Declares limits text spec scope
  pub translated : Translated text scope spec.lines (stage_of T)
  pub derives : (before after : List Lined) (l : Lined) → spec.lines ≡ before ++ (l ∷ after) → DerivesFor text scope before l (numbered text scope l.sender) (sent_message text scope before l)

-- a text is refused as underivable for a line of it
pub record Stopped (limits : Limits) (text : List ℕ) (at role term : ℕ) : Type 0 where
  pub spec : syntax.Specification
  pub scope : Scope
  pub declares : Declares limits text spec scope
  pub reached : Reached limits text scope spec.lines
  pub blames : Blames limits text scope spec.lines reached at role term

-- memory was wanting: this fault is no refusal
pub record WantsMemory (result : Result Translation TranslationFault) : Type 0 where
  pub fault : TranslationFault
  pub is : result ≡ Err fault
  pub none : translation_refusal fault ≡ None

-- what is answered to a text: a translation is the model's; a refusal as underivable tells of a line whose message does not derive for its sender; and where there is
-- such a line, that is what is answered
pub record TranslationLaw (limits : Limits) (text : List ℕ) (result : Result Translation TranslationFault) : Type 0 where
  pub renders : (T : Translation) → result ≡ Ok T → Renders limits text T
  pub stopped : (at role term : ℕ) → result ≡ Err (Lines (Underivable at role term)) → Stopped limits text at role term
  pub stops :
      (X : syntax.Specification) (U : Scope) → Declares limits text X U → (r : Reached limits text U X.lines) → SenderLacks limits text U X.lines r
      → ((term : ℕ) × (result ≡ Err (Lines (Underivable (term_place r.here.message) (sender_place limits text U X.lines r) term)))) ⊎ WantsMemory result
