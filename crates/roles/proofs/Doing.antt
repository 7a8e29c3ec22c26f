-- A role that did some duties: it stands where the model's role does, and its rows are those of the model's stages.
use Rattle.std.proofs.Common.{◌≡◌, ℕ, ◌+◌, Bool, true, false, cond, List, [], ◌∷◌, ◌++◌, map, length, drop, Ok, Err, sym, ap, ◌∙◌, subst, append-nil, length-append}
use mathlib.Core.Option.{some}
use mathlib.Core.Path.{subst⁻¹}
use Rattle.std.proofs.Math.Seq.{drop-append_seam}
use Rattle.std.proofs.lemmas.List.{length-map}
use Rattle.model.specs.Roles.{Act, Role}
use Rattle.model.specs.Runs.{Memory, empty}
use Rattle.model.specs.Specifications.{Specification, message, Duty}
use Rattle.model.specs.Programs.{nobody_yet, next_role, line, stage, stages_from, turn_of, line_of, rows_of}
use Rattle.model.proofs.Adding.{line_is}
use Rattle.model.proofs.Fitting.{Fit, went_duty}
use Rattle.model.proofs.Grounds.{Good}
use Rattle.model.proofs.Lines.{good_nobody}
use Rattle.model.proofs.Marked.{None}
use Rattle.terms.specs.declared.limits.Limits.{Limits}
use Rattle.roles.specs.declared.line_fault.LineFault.TheVariants.{Limit}
use Rattle.roles.specs.Playing.{Player, over, ended}
use Rattle.roles.proofs.Coming.{Came, came_more, came_stages, rows_append}

-- a role after a line
abbrev pub after : ℕ → Player → Role → Player
after l p s = record { name = p.name; part = p.part; party = p.party; role = s; rows = p.rows ++ map (λ a. (l, a)) (drop (length p.rows) s.acts) }

pub ended_after : (limits : Limits) (l at : ℕ) (p : Player) (s : Role) (q : Player) → ended limits l at p s ≡ Ok q → after l p s ≡ q
ended_after limits l at p s q = go (over limits s)
  where
    go : (b : Bool) → cond b (Err (Limit at)) (Ok (after l p s)) ≡ Ok q → after l p s ≡ q
    go true e = absurd (cc)
    go false e = cc

module _ (S : Specification) (r : ℕ) where
  pub record Did (ds : List Duty) (p : Player) : Type 0 where
    pub party : p.party ≡ S.party r
    pub came : Came (message S) (S.party r) nobody_yet ds p.role
    pub rows : p.rows ≡ rows_of (stages_from (message S) (S.party r) nobody_yet ds)
    pub long : length p.rows ≡ length p.role.acts
    pub sheet : Memory
    pub good : Good p.role sheet p.role.next None

  pub did_nothing : (p : Player) → p.party ≡ S.party r → p.role ≡ nobody_yet → p.rows ≡ [] → Did [] p
  did_nothing p e f g = record {
    party = e;
    came = sym f;
    rows = g;
    long = ap length g ∙ ap (λ (s : Role). length s.acts) (sym f);
    sheet = empty;
    good = subst⁻¹ (λ (s : Role). Good s empty s.next None) f good_nobody;
  }

  module _ (ds : List Duty) (d : Duty) (p : Player) (s : Role) (h : Did ds p) (f : Fit (message S) d p.role) (e : next_role (message S) (S.party r) d p.role ≡ some s) where
    new_acts : drop (length p.rows) s.acts ≡ line p.role s
    new_acts =
        let w = (went_duty (message S) (S.party r) d p.role s h.sheet h.good f e).0 in
        ap (λ n. drop n s.acts) h.long ∙ ap (drop (length p.role.acts)) w.grew.adds ∙ drop-append_seam p.role.acts w.grew.line ∙ sym (line_is (S.party r) w.grew)

    -- it did one more
    pub did_more : Did (ds ++ (d ∷ [])) (after (line_of (turn_of d)) p s)
    did_more =
        let w = (went_duty (message S) (S.party r) d p.role s h.sheet h.good f e).0 in
        let l = line_of (turn_of d) in
        let new : List (ℕ × Act) = map (λ a. (l, a)) (line p.role s) in
        let same : p.rows ++ map (λ a. (l, a)) (drop (length p.rows) s.acts) ≡ p.rows ++ new = ap (λ xs. p.rows ++ map (λ a. (l, a)) xs) new_acts in
        record {
          party = h.party;
          came = came_more (message S) (S.party r) nobody_yet p.role s ds d h.came e;
          rows =
              same ∙ ap (λ (xs : List (ℕ × Act)). xs ++ new) h.rows ∙ ap (λ (xs : List (ℕ × Act)). rows_of (stages_from (message S) (S.party r) nobody_yet ds) ++ xs) (sym (append-nil new))
              ∙ sym (rows_append (stages_from (message S) (S.party r) nobody_yet ds) (stage (message S) (S.party r) d p.role s ∷ []))
              ∙ ap rows_of (sym (came_stages (message S) (S.party r) nobody_yet p.role s ds d h.came e));
          long =
              ap length same ∙ length-append p.rows new ∙ ap (λ n. length p.rows + n) (length-map (line p.role s) (λ a. (l, a)) ∙ ap length (line_is (S.party r) w.grew))
              ∙ ap (λ n. n + length w.grew.line) h.long ∙ sym (length-append p.role.acts w.grew.line) ∙ ap length (sym w.grew.adds);
          sheet = w.sheet;
          good = w.good;
        }

    -- as the line ends
    pub did_line : (limits : Limits) (at : ℕ) (q : Player) → ended limits (line_of (turn_of d)) at p s ≡ Ok q → Did (ds ++ (d ∷ [])) q
    did_line limits at q g = subst (Did (ds ++ (d ∷ []))) (ended_after limits (line_of (turn_of d)) at p s q g) did_more
