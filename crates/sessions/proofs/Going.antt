-- Requests one after the other.
use Rattle.std.proofs.Common.{◌≡◌, ℕ, ◌+◌, ◌<◌, List, [], ◌∷◌, ◌++◌, length, map, take, get_or, Some, sym, refl, ap, ◌∙◌, subst, append-nil, append_assoc}
use Rattle.std.proofs.lemmas.List.{take_more}
use mathlib.Core.Path.{subst⁻¹}
use Rattle.store.specs.Semantics.{Semantics}
use Rattle.run.specs.declared.run.Run.{Run}
use Rattle.model.specs.Trees.{Tree}
use Rattle.model.specs.Storable.{Storable}
use Rattle.run.specs.Shown.{Small}
use Rattle.sessions.specs.declared.reply.Reply.{Reply}
use Rattle.sessions.specs.declared.request.Request.{Request}
use Rattle.sessions.specs.Happening.{Named, Did, Happened}
use Rattle.sessions.specs.Replies.{Does}
use Rattle.sessions.specs.Observed.{Step}
use Rattle.sessions.specs.Performing.{Performed}
use Rattle.sessions.proofs.RunLaw.{lawful_points}

module _ {S : Type 0} (M : Semantics S) where
  asked_more : (H : List (Step S)) (e : Step S) → map (λ (x : Step S). x.asked) (H ++ (e ∷ [])) ≡ map (λ (x : Step S). x.asked) H ++ (e.asked ∷ [])
  asked_more [] e = refl
  asked_more (x ∷ H) e = ap (λ l. x.asked ∷ l) (asked_more H e)

  replied_more : (H : List (Step S)) (e : Step S) → map (λ (x : Step S). x.reply) (H ++ (e ∷ [])) ≡ map (λ (x : Step S). x.reply) H ++ (e.reply ∷ [])
  replied_more [] e = refl
  replied_more (x ∷ H) e = ap (λ l. x.reply ∷ l) (replied_more H e)

  named_more : (H : List (Step S)) (e : Step S) (rs : List Reply) → Named rs H → e.earlier ≡ rs ++ map (λ (x : Step S). x.reply) H → Named rs (H ++ (e ∷ []))
  named_more [] e rs n q = (q ∙ append-nil rs, tt)
  named_more (x ∷ H) e rs n q = (n.0, named_more H e (rs ++ (x.reply ∷ [])) n.1 (q ∙ sym (append_assoc rs (x.reply ∷ []) (map (λ (x : Step S). x.reply) H))))

  happened_more : (H : List (Step S)) (e : Step S) (first : S) (fresh : List Run) (s : S) (runs : List Run) → Happened M first fresh H s runs → Did M s runs e
      → Happened M first fresh (H ++ (e ∷ [])) e.after e.runs_after
  happened_more [] e first fresh s runs h d = (subst (λ z. Did M z fresh e) h.0 (subst (λ z. Did M s z e) h.1 d), (refl, refl))
  happened_more (x ∷ H) e first fresh s runs h d = (h.0, happened_more H e x.after x.runs_after s runs h.1 d)

  -- so far
  pub record Halfway (first s : S) (fresh runs : List Run) (qs : List Request) (rs : List Reply) : Type 0 where
    pub history : List (Step S)
    pub asked : map (λ (x : Step S). x.asked) history ≡ qs
    pub replied : map (λ (x : Step S). x.reply) history ≡ rs
    pub named : Named [] history
    pub happened : Happened M first fresh history s runs

  pub halfway_start : (s : S) (runs : List Run) → Halfway s s runs runs [] []
  halfway_start s runs = record { history = []; asked = refl; replied = refl; named = tt; happened = (refl, refl) }

  -- one request more
  pub halfway_one : (first s s' : S) (fresh runs runs' : List Run) (qs : List Request) (rs : List Reply) (q : Request) (r : Reply)
      → Does M s s' runs runs' rs q r → Halfway first s fresh runs qs rs → Halfway first s' fresh runs' (qs ++ (q ∷ [])) (rs ++ (r ∷ []))
  halfway_one first s s' fresh runs runs' qs rs q r d h = record {
    history = h.history ++ (e ∷ []);
    asked = asked_more h.history e ∙ ap (λ l. l ++ (q ∷ [])) h.asked;
    replied = replied_more h.history e ∙ ap (λ l. l ++ (r ∷ [])) h.replied;
    named = named_more h.history e [] h.named (sym h.replied);
    happened = happened_more h.history e first fresh s runs h.happened (record { before = refl; runs_before = refl; does = d });
  }
    where
      e : Step S
      e = record { earlier = rs; asked = q; reply = r; before = s; after = s'; runs_before = runs; runs_after = runs' }

  pub halfway_more : (first s s' : S) (fresh runs runs' : List Run) (qs : List Request) (i : ℕ) (q : Request) → i < length qs → q ≡ get_or qs i q → (xs rs rs' : List Reply) → xs ≡ rs → (r : Reply)
      → Does M s s' runs runs' xs q r → rs' ≡ rs ++ (r ∷ []) → Halfway first s fresh runs (take i qs) rs → Halfway first s' fresh runs' (take (i + 1) qs) rs'
  halfway_more first s s' fresh runs runs' qs i q l is xs rs rs' same r o e h =
      subst⁻¹ (λ zs. Halfway first s' fresh runs' zs rs') (take_more qs i q l)
      (subst⁻¹ (λ ys. Halfway first s' fresh runs' (take i qs ++ (get_or qs i q ∷ [])) ys) e
      (halfway_one first s s' fresh runs runs' (take i qs) rs (get_or qs i q) r
      (subst (λ p. Does M s s' runs runs' rs p r) is (subst (λ zs. Does M s s' runs runs' zs q r) same o)) h))

  -- what was performed is lawful
  pub all_performed : (small : (s : S) → Small (M.means s)) → ((s : S) (h : ℕ) (v : Tree) → M.means s h ≡ Some v → Storable v) → (first s : S) (fresh runs : List Run) (qs : List Request) (rs : List Reply) → Halfway first s fresh runs qs rs
      → Performed M first s fresh runs qs rs
  all_performed small holds first s fresh runs qs rs h = record {
    history = h.history;
    asked = h.asked;
    replied = h.replied;
    named = h.named;
    happened = h.happened;
    lawful = λ X old new past b k es rest e. lawful_points M (M.cost old) small X b.accepted holds old new refl b past first fresh k h.history s runs h.happened es rest e;
  }
