-- New runs of a translation's roles are new runs of its specification.
use Rattle.std.proofs.Common.{◌≡◌, ℕ, zero, suc, ◌<◌, ◌≤◌, true, false, List, [], ◌∷◌, length, map, get_or, vec_items, Ok, Err, Result, Vec, sym, refl, ap, ap₂, ◌∙◌, subst, inl, inr, arith}
use Rattle.std.specs.declared.alloc.Global.{Global}
use Rattle.std.proofs.lemmas.List.{length-map}
use Rattle.std.proofs.Math.ListN.{get_or-map}
use mathlib.Core.Path.{subst⁻¹}
use Rattle.model.specs.Lists.{Every, SomeOf}
use Rattle.model.specs.Specifications.{Specification}
use Rattle.model.specs.Programs.{program}
use Rattle.model.proofs.Lists.{every_some}
use Rattle.program.specs.declared.action.Row.{Row}
use Rattle.program.specs.Held.{passes}
use Rattle.terms.specs.declared.declarations.Function.{Function}
use Rattle.terms.specs.declared.declarations.ValueType.{ValueType}
use Rattle.terms.specs.declared.limits.Limits.{Limits}
use Rattle.terms.specs.Counts.{counts}
use Rattle.terms.specs.Consistency.{Within}
use Rattle.terms.specs.Meanings.{signature_in, parameters_in, types_of, functions_of}
use Rattle.terms.proofs.Pushing.{arity_is}
use Rattle.terms.specs.Scope.{Scope, Signature}
use Rattle.terms.proofs.CountedScopes.{declared_counted}
use Rattle.terms.proofs.Few.{declared_few}
use Rattle.roles.specs.declared.role.Role.{Role}
use Rattle.roles.specs.declared.translation.Translation.{Translation}
use Rattle.roles.specs.Holding.{counts_of, AllHeld}
use Rattle.roles.specs.Players.{player_of}
use Rattle.roles.specs.Playing.{Player}
use Rattle.roles.specs.Specified.{specified}
use Rattle.roles.specs.Stages.{Stage}
use Rattle.roles.specs.Staging.{stage_of, players_of}
use Rattle.roles.specs.Translating.{translation}
use Rattle.roles.specs.TranslationLaw.{Translated}
use Rattle.roles.proofs.AllHeld.{Accepts, accepts, specified_counted}
use Rattle.roles.proofs.Translated.{accepted_so_far, messages_typed, translates}
use Rattle.store.specs.Semantics.{Semantics}
use Rattle.run.specs.declared.run.Run.{Run}
use Rattle.run.specs.Called.{Shows}
use Rattle.run.specs.Plain.{new_plain}
use Rattle.run.specs.Shown.{Meaning}
use Rattle.sessions.specs.declared.reply.Reply.{Reply}
use Rattle.sessions.specs.declared.request.Request.{Request}
use Rattle.sessions.specs.declared.fault.RunsFault.{RunsFault}
use Rattle.sessions.specs.declared.fault.RunsFault.TheVariants.{Unsound, NoMemory}
use Rattle.sessions.specs.Performing.{Performed, PerformedText}
use Rattle.sessions.specs.Starting.{short_count, IsNew, NewRuns, TextRuns, RunOf, AllNew, RunsOf}
use Rattle.sessions.proofs.Zips.{zip_long, zip_at}

-- one of a list, by its place
some_at : {A : Type 0} (Q : A → Type 0) (xs : List A) (i : ℕ) (x : A) → i < length xs → Q (get_or xs i x) → SomeOf Q xs
some_at Q [] i x l q = absurd (omega arith)
some_at Q (y ∷ ys) zero x l q = inl q
some_at Q (y ∷ ys) (suc i) x l q = inr (some_at Q ys i x (omega arith) q)

-- a role whose rows cannot be held
pub new_refused : (counts : List ℕ) (roles : List Role) (i : ℕ) (role : Role) → i < length roles → role ≡ get_or roles i role → (rows : List Row) → rows ≡ vec_items role.rows
    → (e : RunsFault) → RunOf counts rows (Err e) → AllNew counts roles (Err e)
new_refused counts roles i role l is rows same Unsound q =
    some_at (λ (r : Role). passes counts (vec_items r.rows) ≡ false) roles i role l (subst (λ (r : Role). passes counts (vec_items r.rows) ≡ false) is (subst (λ xs. passes counts xs ≡ false) same q))
new_refused counts roles i role l is rows same (NoMemory w) q = tt

-- a byte holds the count of each function
short_counts : (ws : List ValueType) (fs : List Function) → Within fs (length ws) → Every (λ (s : Signature). length s.parameters ≤ 8) (map (signature_in ws) fs) → map short_count fs ≡ counts (map (signature_in ws) fs)
short_counts ws [] w h = refl
short_counts ws (f ∷ fs) w h =
    let n = arity_is ws f (w 0 f (omega arith)) in
    let e : short_count f ≡ length (parameters_in ws f) = omega (arith, h.0, n) in
    ap₂ (λ (n : ℕ) (ns : List ℕ). n ∷ ns) e (short_counts ws fs (λ k x l. w (suc k) x (omega arith)) h.1)

-- one of a list
any : {A : Type 0} (xs : List A) (k : ℕ) → k < length xs → A
any [] k l = absurd (omega arith)
any (x ∷ xs) k l = x

module _ (limits : Limits) (text : List ℕ) (T : Translation) (s : translation limits text ≡ Ok (stage_of T)) where
  abbrev G : Stage
  G = stage_of T

  a : Accepts limits text G
  a = accepts limits text G s

  -- the counts of the parts of a translation's functions
  pub counts_short : map short_count (functions_of T.declarations) ≡ counts_of T
  counts_short = short_counts (types_of T.declarations) (functions_of T.declarations) (subst (Within (functions_of T.declarations)) T.declarations.parameters.ok.0 T.declarations.within) (subst⁻¹ (Every (λ (x : Signature). length x.parameters ≤ 8)) (ap (λ (z : Scope). z.functions) (accepted_so_far text limits a.spec a.scope a.declares.scope a.spec.lines [] G a.lined).scope)
      (declared_few text limits a.declares.tree a.spec a.scope a.declares.shaped a.declares.scope))

  -- its programs can be held with these
  pub can_be_held : AllHeld T → (cs : List ℕ) → cs ≡ map short_count (functions_of T.declarations) → Every (λ (r : Role). passes cs (vec_items r.rows) ≡ true) (vec_items T.roles)
  can_be_held h cs e = subst⁻¹ (λ cs. Every (λ (r : Role). passes cs (vec_items r.rows) ≡ true) (vec_items T.roles)) (e ∙ counts_short) h.each

  abbrev X : Specification
  X = specified text a.scope a.spec.lines

  w : Translated text a.scope a.spec.lines G
  w = translates limits text a.spec a.scope G a.declares a.lined

  -- new runs of the roles are new runs of the specification's programs
  module _ (runs : List Run) (z : NewRuns (vec_items T.roles) runs) where
    runs_fresh : (m : Meaning) (k : ℕ) (run : Run) → k < length runs → Shows m (get_or runs k run) (new_plain (program X k))
    runs_fresh m k run l = subst (λ xs. Shows m (get_or runs k run) (new_plain xs)) rows (zip_at IsNew (vec_items T.roles) runs k role run l z m)
      where
        long : length runs ≡ length (vec_items T.roles)
        long = zip_long IsNew (vec_items T.roles) runs z

        many : length (players_of T) ≡ length (vec_items T.roles)
        many = length-map (vec_items T.roles) (player_of T.declarations.terms)

        role : Role
        role = any (vec_items T.roles) k (omega (arith, l, long))

        player : Role → Player
        player = player_of T.declarations.terms

        rows : (player (get_or (vec_items T.roles) k role)).rows ≡ program X k
        rows = ap (λ (p : Player). p.rows) (sym (get_or-map player (vec_items T.roles) k role)) ∙ (w.each k (player role) (omega (arith, l, long, many))).rows

    pub text_runs : TextRuns limits text runs
    text_runs = record {
      spec = a.spec;
      scope = a.scope;
      stage = G;
      declares = a.declares;
      accepted = a.lined;
      counted = λ other. specified_counted text a.scope (declared_counted text limits a.spec a.scope a.declares.scope) other a.spec.lines
          (messages_typed text limits a.spec a.scope a.declares.scope a.spec.lines G a.lined);
      begins = record {
        accepted = w.accepted;
        many = zip_long IsNew (vec_items T.roles) runs z ∙ sym (length-map (vec_items T.roles) (player_of T.declarations.terms)) ∙ w.many;
        fresh = runs_fresh;
      };
    }

-- new runs of a translation's roles
pub runs_of : (T : Translation) (counts : List ℕ) (r : Result (Vec Run Global) RunsFault) → AllNew counts (vec_items T.roles) r → RunsOf T counts r
runs_of T counts (Ok runs) z = (z, λ limits text s. text_runs limits text T s (vec_items runs) z)
runs_of T counts (Err Unsound) z = z
runs_of T counts (Err (NoMemory w)) z = tt

-- with the counts of its functions they can be held
pub never_unsound : (limits : Limits) (text : List ℕ) (T : Translation) → translation limits text ≡ Ok (stage_of T) → AllHeld T → (cs : List ℕ) → cs ≡ map short_count (functions_of T.declarations)
    → ¬ SomeOf (λ (r : Role). passes cs (vec_items r.rows) ≡ false) (vec_items T.roles)
never_unsound limits text T s h cs e i = every_some _ _ ⊥ (λ r p q. absurd (cc)) (vec_items T.roles) (can_be_held limits text T s h cs e) i

-- what was performed on new runs of a text's roles
pub performed : {S : Type 0} (M : Semantics S) (limits : Limits) (text : List ℕ) (old new : S) (runs runs' : List Run) → TextRuns limits text runs
    → (requests : List Request) (replies : List Reply) → Performed M old new runs runs' requests replies → PerformedText M limits text requests old new replies
performed M limits text old new runs runs' t requests replies p = record {
  fresh = runs;
  left = runs';
  roles = t;
  session = p;
  lawful = λ es rest e. p.lawful (specified text t.scope t.spec.lines) old runs [] t.begins (refl, refl) es rest e;
}
