-- When a line is ready: nothing but its message's deriving is left to be asked before it is said.
use Rattle.std.specs.Prelude.{◌≡◌, ℕ, ◌<◌, ◌≤◌, min, Bool, false, cond, List, [], ◌∷◌, ◌++◌, map, length, Some}
use Rattle.model.specs.Lists.{Every}
use Rattle.model.specs.Trees.{Tree}
use Rattle.model.specs.Roles.{Role, start}
use Rattle.syntax.specs.declared.spec.Name.{Name}
use Rattle.syntax.specs.Specs.{Term, Lined}
use Rattle.terms.specs.declared.declarations.Meaning.TheVariants.{Value}
use Rattle.terms.specs.declared.declarations.ValueType.TheVariants.{Number, Principal}
use Rattle.terms.specs.declared.limits.Limits.{Limits}
use Rattle.terms.specs.Numbering.{tree, has}
use Rattle.terms.specs.Scope.{Scope, number_of, meaning_of}
use Rattle.terms.specs.Starting.{given_to}
use Rattle.terms.specs.TermNumbers.{read_in}
use Rattle.terms.specs.TermTypes.{HasType}
use Rattle.roles.specs.Labels.{equal_labels}
use Rattle.roles.specs.Playing.{Player}
use Rattle.roles.specs.Specified.{place_in, with_number}
use Rattle.roles.specs.Stages.{Stage}
use Rattle.roles.specs.Starting.{party_in}

-- this is the name of a declared principal, the one of this number
pub record IsPrincipal (text : List ℕ) (S : Scope) (x : Name) (n : ℕ) : Type 0 where
  pub number : number_of text S.names x.part ≡ Some n
  pub shared : Bool
  pub means : meaning_of text S.names x.part ≡ Some (Value Principal shared)

-- the model's role after its start
abbrev pub begun : Scope → ℕ → Role
begun S n = start (party_in S n) (given_to n S.starts)

-- one role more may be there, and its start has no more registers and actions than a role may
pub record MayStart (limits : Limits) (S : Scope) (roles : List ℕ) (n : ℕ) : Type 0 where
  pub room : length roles < min limits.roles 8
  pub registers : (begun S n).next ≤ min limits.registers 512
  pub actions : length (begun S n).acts ≤ min limits.actions 4096

-- the party of this name is a role, or may start as one
abbrev pub MayStand : Limits → Scope → List ℕ → ℕ → Type 0
MayStand limits S roles n = ¬ (place_in n roles < length roles) → MayStart limits S roles n

-- terms, and behind them those of others that are not yet among them
abbrev pub joined : List Tree → List Tree → List Tree
joined us [] = us
joined us (t ∷ ts) = joined (cond (has t us) us (us ++ (t ∷ []))) ts

-- the numbers of those that come behind are below the limit
abbrev pub Below : ℕ → List Tree → List Tree → Type 0
Below most us vs = (k : ℕ) → ¬ (k < length us) → k < length vs → k < most

-- the names of the roles so far
abbrev pub names_of : Stage → List ℕ
names_of G = map (λ (p : Player). p.name) G.players

-- the terms so far with those of a message
abbrev pub terms_with : List ℕ → Term → Stage → List Tree
terms_with text t G = joined G.scope.terms (read_in (tree text G.scope.names t))

-- no line before it has its label; its sender and its receiver are two principals, each a role or one that may start; and its message has a type, and its terms are
-- within the limit
pub record Ready (limits : Limits) (text : List ℕ) (before : List Lined) (l : Lined) (G : Stage) : Type 0 where
  pub label : Every (λ (m : Lined). equal_labels text m.label l.label ≡ false) before
  pub sender : ℕ
  pub receiver : ℕ
  pub sends : IsPrincipal text G.scope l.sender sender
  pub receives : IsPrincipal text G.scope l.receiver receiver
  pub two : ¬ (sender ≡ receiver)
  pub sender_stands : MayStand limits G.scope (names_of G) sender
  pub receiver_stands : MayStand limits G.scope (with_number sender (names_of G)) receiver
  pub typed : HasType text G.scope l.message Number
  pub terms : Below (min limits.terms 512) G.scope.terms (terms_with text l.message G)
