-- The law leaves one answer.
use Rattle.std.proofs.Common.{◌≡◌, ℕ, ◌+◌, ◌<◌, ◌≤◌, ◌⊎◌, List, [], ◌∷◌, ◌++◌, length, take, drop, Ok, Err, Result, sym, ap, ◌∙◌, subst, inl, inr, ⊎_elim, append_assoc, arith, take-append-drop, take-take}
use Rattle.std.proofs.lemmas.Bool.{cases_lt, cases_order}
use Rattle.text.specs.Grammar.{Text}
use Rattle.text.specs.Law.{From, Shallow, FitsBefore, Passes, Spelled, Breaks, Exceeds, Obeys}
use Rattle.text.specs.Reading.{reading}
use Rattle.text.specs.Trees.{Tree}
use Rattle.text.specs.declared.fault.TextFault.{TextFault}
use Rattle.text.specs.declared.fault.TextFault.TheVariants.{Limit, Broken, NoMemory}
use Rattle.text.proofs.Laws.{law, fits_passes, front_text}

abbrev Nodes : Type 0
Nodes = List (ℕ × ℕ)

-- A node that stands in a list cut in two stands before the cut or behind it.
side : (p : ℕ) (ms ls es ns : Nodes) (n : ℕ × ℕ) → ms ++ ls ≡ es ++ (n ∷ ns) → Shallow ms → From p ls → ((n.1 ≤ 32) × (length es < length ms)) ⊎ (p ≤ n.0)
side p [] ls es ns n e s f = inr (placed es ls e f)
  where
    placed : (es ls : Nodes) → ls ≡ es ++ (n ∷ ns) → From p ls → p ≤ n.0
    placed [] [] e f = let z : ◌≡◌ {A = ℕ} 0 1 = cc in absurd (omega arith)
    placed [] (l ∷ ls) e f = let q : l ≡ n = cc in subst (λ x. p ≤ x.0) q f.0
    placed (x ∷ es) [] e f = let z : ◌≡◌ {A = ℕ} 0 1 = cc in absurd (omega arith)
    placed (x ∷ es) (l ∷ ls) e f = placed es ls (cc) f.1
side p (m ∷ ms) ls [] ns n e s f = let q : m ≡ n = cc in inl (subst (λ x. x.1 ≤ 32) q s.0, omega arith)
side p (m ∷ ms) ls (x ∷ es) ns n e s f =
    elim (side p ms ls es ns n (cc) s.1 f) [
      | inl h ↦ let l = h.1 in inl (h.0, omega arith)
      | inr h ↦ inr h
    ]

-- Two nodes of one list, each with what stands before it.
first_of : (ms ls es ns : Nodes) (m n : ℕ × ℕ) → ms ++ (m ∷ ls) ≡ es ++ (n ∷ ns) → Shallow ms → Shallow es → (((n.1 ≤ 32) × (length es < length ms)) ⊎ ((m.1 ≤ 32) × (length ms < length es))) ⊎ (m ≡ n)
first_of [] ls [] ns m n e s t = inr (cc)
first_of [] ls (x ∷ es) ns m n e s t = let q : x ≡ m = cc in inl (inr (subst (λ z. z.1 ≤ 32) q t.0, omega arith))
first_of (x ∷ ms) ls [] ns m n e s t = let q : x ≡ n = cc in inl (inl (subst (λ z. z.1 ≤ 32) q s.0, omega arith))
first_of (x ∷ ms) ls (y ∷ es) ns m n e s t =
    elim (first_of ms ls es ns m n (cc) s.1 t.1) [
      | inl (inl h) ↦ let l = h.1 in inl (inl (h.0, omega arith))
      | inl (inr h) ↦ let l = h.1 in inl (inr (h.0, omega arith))
      | inr h ↦ inr h
    ]

no_pass_before : (p q : ℕ) (t : Tree) → FitsBefore p t → Passes q t → q < p → ⊥
no_pass_before p q t f o l =
    let few = f.fits.few in
    elim (side p f.earlier f.later o.earlier o.later (q, o.level) (sym f.all ∙ o.all) f.fits.shallow f.from) [
      | inl h ↦ let a = h.0 in let b = h.1 in ⊎_elim (λ e. omega arith) (λ e. omega arith) o.over
      | inr h ↦ omega arith
    ]

one_pass : (p q : ℕ) (t : Tree) → Passes p t → Passes q t → p ≡ q
one_pass p q t f o =
    let few = f.fits.few in
    let small = o.fits.few in
    elim (first_of f.earlier f.later o.earlier o.later (p, f.level) (q, o.level) (sym f.all ∙ o.all) f.fits.shallow o.fits.shallow) [
      | inl (inl h) ↦ let a = h.0 in let b = h.1 in absurd (⊎_elim (λ e. omega arith) (λ e. omega arith) o.over)
      | inl (inr h) ↦ let a = h.0 in let b = h.1 in absurd (⊎_elim (λ e. omega arith) (λ e. omega arith) f.over)
      | inr e ↦ ap (λ n. n.0) e
    ]

module _ (text : List ℕ) where
  -- A text that goes on from a longer beginning goes on from a shorter one.
  shorter : (n m : ℕ) (more : List ℕ) (t : Tree) → n ≤ m → Text (take m text ++ more) t → Text (take n text ++ (drop n (take m text) ++ more)) t
  shorter n m more t h s =
      let e : take m text ≡ take n text ++ drop n (take m text) = sym (take-append-drop n (take m text)) ∙ ap (λ l. l ++ drop n (take m text)) (take-take n m text h) in
      subst (λ l. Text l t) (ap (λ l. l ++ more) e ∙ append_assoc (take n text) (drop n (take m text)) more) s

  whole_broken : (t : Tree) (p : ℕ) → Spelled text t → Breaks text p → ⊥
  whole_broken t p s k = elim (cases_lt p (length text)) [
    | inl l ↦ k.ends l (drop (p + 1) text) t (front_text text (p + 1) t s.spells)
    | inr l ↦ let w = k.within in k.unfinished (omega arith) t s.spells
  ]

  whole_exceeds : (t : Tree) (p : ℕ) → Spelled text t → Exceeds text p → ⊥
  whole_exceeds t p s k =
      let w = k.within in
      let h = s.short in
      ⊎_elim (λ o. fits_passes p t s.fits (o (drop (p + 1) text) t (front_text text (p + 1) t s.spells))) (λ o. let e = o.0 in omega arith) k.over

  breaks_first : (p q : ℕ) → p < q → Breaks text p → Breaks text q → ⊥
  breaks_first p q l a b =
      let w = b.within in
      a.ends (omega arith) (drop (p + 1) (take q text) ++ b.begins.0) b.begins.1 (shorter (p + 1) q b.begins.0 b.begins.1 (omega arith) b.begins.2)

  breaks_exceeds : (p q : ℕ) → Breaks text p → Exceeds text q → ⊥
  breaks_exceeds p q a b =
      let w = b.within in
      let h = a.short in
      elim (cases_lt q p) [
        | inl l ↦
            let s = shorter (q + 1) p a.begins.0 a.begins.1 (omega arith) a.begins.2 in
            ⊎_elim
            (λ o. no_pass_before p q a.begins.1 (a.fits a.begins.0 a.begins.1 a.begins.2) (o (drop (q + 1) (take p text) ++ a.begins.0) a.begins.1 s) l)
            (λ o. let e = o.0 in omega arith) b.over
        | inr l ↦ a.ends (omega arith) (drop (p + 1) (take (q + 1) text) ++ b.begins.0) b.begins.1 (shorter (p + 1) (q + 1) b.begins.0 b.begins.1 (omega arith) b.begins.2)
      ]

  exceeds_first : (p q : ℕ) → p < q → Exceeds text p → Exceeds text q → ⊥
  exceeds_first p q l a b =
      let h = b.short in
      let t = b.begins.1 in
      let s = shorter (p + 1) (q + 1) b.begins.0 t (omega arith) b.begins.2 in
      ⊎_elim
      (λ o.
      let pass = o (drop (p + 1) (take (q + 1) text) ++ b.begins.0) t s in
      ⊎_elim
      (λ u. let e = one_pass p q t pass (u b.begins.0 t b.begins.2) in omega arith)
      (λ u. no_pass_before q p t (u.1 b.begins.0 t b.begins.2) pass l)
      b.over)
      (λ o. let e = o.0 in omega arith)
      a.over

  -- Two answers that obey the law are one.
  one_answer : (o r : Result Tree TextFault) → Obeys text o → Obeys text r → o ≡ r
  one_answer (Ok t) (Ok u) a b = ap (λ x. Ok x) (b.only t a.spells)
  one_answer (Ok t) (Err (Limit q)) a b = absurd (whole_exceeds t q a b)
  one_answer (Ok t) (Err (Broken q)) a b = absurd (whole_broken t q a b)
  one_answer (Ok t) (Err (NoMemory w)) a b = absurd b
  one_answer (Err (Limit p)) (Ok u) a b = absurd (whole_exceeds u p b a)
  one_answer (Err (Limit p)) (Err (Limit q)) a b = elim (cases_order p q) [
    | inl e ↦ ap (λ x. Err (Limit x)) e
    | inr (inl l) ↦ absurd (exceeds_first p q l a b)
    | inr (inr l) ↦ absurd (exceeds_first q p l b a)
  ]
  one_answer (Err (Limit p)) (Err (Broken q)) a b = absurd (breaks_exceeds q p b a)
  one_answer (Err (Limit p)) (Err (NoMemory w)) a b = absurd b
  one_answer (Err (Broken p)) (Ok u) a b = absurd (whole_broken u p b a)
  one_answer (Err (Broken p)) (Err (Limit q)) a b = absurd (breaks_exceeds p q a b)
  one_answer (Err (Broken p)) (Err (Broken q)) a b = elim (cases_order p q) [
    | inl e ↦ ap (λ x. Err (Broken x)) e
    | inr (inl l) ↦ absurd (breaks_first p q l a b)
    | inr (inr l) ↦ absurd (breaks_first q p l b a)
  ]
  one_answer (Err (Broken p)) (Err (NoMemory w)) a b = absurd b
  one_answer (Err (NoMemory w)) r a b = absurd a

  pub decided : (o : Result Tree TextFault) → Obeys text o → o ≡ reading text
  decided o h = one_answer o (reading text) h (law text)
