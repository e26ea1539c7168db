-- A row that was written, cell by cell or whole: what stands in it, and that nothing beside it changed.
use Rattle.std.proofs.Common.{◌≡◌, ℕ, ◌+◌, ◌*◌, ◌<◌, ◌≤◌, ◌⊎◌, cond, eqb, List, length, get_or, set, ◌∙◌, inl, inr, ⊎_elim, arith, length-drop, length-take, rules}
use Rattle.std.proofs.lemmas.Grind.{common_steps, get_or-set_at}
use Rattle.std.proofs.lemmas.List.{places, get_or-set_other}
use Rattle.std.proofs.lemmas.List.Edits.{length-paste}
use Rattle.std.proofs.lemmas.List.FromFn.{length-map-range_with_len, get_or-map-range_with_len}
use Rattle.std.proofs.lemmas.Bool.{cases_lt, cases_eq, eq-eqb, ne_eqb}
use Rattle.grid.specs.Rows.{row, with_row, cells_by, RowIs}
use Rattle.grid.proofs.CellFacts.{row_within, untouched}

-- what stands where, once a row is written
module _ {X : Type 0} (xs ys : List X) (n r : ℕ) where
  with_row_length : r * n + n ≤ length xs → n ≤ length ys → length (with_row xs n r ys) ≡ length xs
  with_row_length = length-paste xs (r * n) ys n

  with_row_inside : (j : ℕ) (d : X) → r * n + n ≤ length xs → n ≤ length ys → j < n → get_or (with_row xs n r ys) (r * n + j) d ≡ get_or ys j d
  with_row_inside j d fits long h = grind (arith, places)

  with_row_outside : (k : ℕ) (d : X) → r * n + n ≤ length xs → n ≤ length ys → (k < r * n) ⊎ (r * n + n ≤ k) → get_or (with_row xs n r ys) k d ≡ get_or xs k d
  with_row_outside = untouched xs ys (r * n) n

-- cells of another row are as they were
pub other_row : {X : Type 0} {n t : ℕ} {d : X} {g : ℕ → X} {old new : List X} → RowIs n t d g old new → (r j : ℕ) → (r ≡ t → ⊥) → j < n → get_or new (r * n + j) d ≡ get_or old (r * n + j) d
other_row {n = n} {t = t} w r j ne h =
    elim (cases_lt r t) [
      | inl l ↦ w.outside (r * n + j) (inl (omega (arith, row_within r t n l)))
      | inr g ↦ w.outside (r * n + j) (inr (omega (arith, row_within t r n (omega arith))))
    ]

-- a row is the same by cells that are equal one by one
pub row_same : {X : Type 0} {n t : ℕ} {d : X} {g : ℕ → X} {old new : List X} → RowIs n t d g old new → (h : ℕ → X) → ((j : ℕ) → j < n → g j ≡ h j) → RowIs n t d h old new
row_same w h e = record { same_length = w.same_length; here = λ j l. w.here j l ∙ e j l; outside = w.outside }

module _ {X : Type 0} (n t : ℕ) (d : X) (old : List X) (inside : t * n + n ≤ length old) where
  -- a row written from a list
  pub written_row : (ys : List X) → n ≤ length ys → RowIs n t d (λ j. get_or ys j d) old (with_row old n t ys)
  written_row ys long = record {
    same_length = with_row_length old ys n t inside long;
    here = λ j h. with_row_inside old ys n t j d inside long h;
    outside = λ i o. with_row_outside old ys n t i d inside long o;
  }

  pub function_row : (g : ℕ → X) (new : List X) → new ≡ with_row old n t (cells_by g n) → RowIs n t d g old new
  function_row g new e =
      rw e (row_same (written_row (cells_by g n) (omega (arith, length-map-range_with_len g 0 n))) g (λ j h. get_or-map-range_with_len g 0 n j j d h (omega arith)))

  pub copied_row : (u : ℕ) (new : List X) → u * n + n ≤ length old → new ≡ with_row old n t (row old n u) → RowIs n t d (λ j. get_or old (u * n + j) d) old new
  copied_row u new from e =
      rw e (row_same (written_row (row old n u) (simp (length-take, length-drop) (omega arith))) (λ j. get_or old (u * n + j) d) (λ j h. search (rules, places)))

  -- one cell of a row that was known
  pub cell_set : (u : ℕ) (v : X) (new : List X) → u < n → new ≡ set old (t * n + u) v → RowIs n t d (λ j. cond (eqb j u) v (get_or old (t * n + j) d)) old new
  cell_set u v new h e = record {
    same_length = grind (arith, common_steps);
    here = λ j l. rw e (elim (cases_eq j u) [ inl i ↦ rw (eq-eqb j u i) (get_or-set_at old (t * n + u) (t * n + j) v d (omega arith) (omega arith)) | inr o ↦ rw (ne_eqb j u o) (get_or-set_other old (t * n + u) (t * n + j) v d (λ i. o (omega arith))) ]);
    outside = λ i o. rw e (get_or-set_other old (t * n + u) i v d (λ q. ⊎_elim (λ x. omega arith) (λ x. omega arith) o));
  }

-- a row written twice, the second time from what the first left
pub twice : {X : Type 0} {n t : ℕ} {d : X} {f g : ℕ → X} {old mid new : List X} → RowIs n t d f old mid → RowIs n t d g mid new → RowIs n t d g old new
twice a b = record { same_length = b.same_length ∙ a.same_length; here = b.here; outside = λ i o. b.outside i o ∙ a.outside i o }
