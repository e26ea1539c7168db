-- Inputs, or other lists of numbers, whose first bytes are the same.
use Rattle.std.proofs.Common.{◌≡◌, ℕ, suc, ◌+◌, ◌-◌, ◌<◌, ◌≤◌, List, [], ◌∷◌, length, drop, take, get_or, slice_index, sym, ap, ◌∙◌, arith, length-take}
use Rattle.std.proofs.lemmas.List.{get_or-take, drop-take, take-take}

-- Two inputs have the same first p bytes.
pub record AgreeTo (p : ℕ) (b d : List ℕ) : Type 0 where
  pub bytes : take p b ≡ take p d

-- Texts that are the same so far were the same before.
pub take_shorter : (xs ys : List ℕ) (m n : ℕ) → m ≤ n → take n xs ≡ take n ys → take m xs ≡ take m ys
take_shorter xs ys m n shorter same = sym (take-take m n xs shorter) ∙ ap (λ (t : List ℕ). take m t) same ∙ take-take m n ys shorter

-- An input agrees with its part.
pub agree_part : (p : ℕ) (b : List ℕ) → AgreeTo p b (take p b)
agree_part p b = record { bytes = sym (take-take p p b (omega arith)) }

-- Bytes inside of a part are those of the whole.
bytes_inside : (p : ℕ) (b : List ℕ) (i n : ℕ) → i + n ≤ p → take n (drop i (take p b)) ≡ take n (drop i b)
bytes_inside p b i n inside =
    let at : i + (p - i) ≡ p = omega arith in
    ap (λ (q : ℕ). take n (drop i (take q b))) (sym at) ∙ ap (λ (l : List ℕ). take n l) (drop-take i (p - i) b) ∙ take-take n (p - i) (drop i b) (omega arith)

-- Lists that agree on one byte more than others begin with it, and the others agree.
pub agree_rest : (a : ℕ) (rest other : List ℕ) (n : ℕ) → AgreeTo (suc n) (a ∷ rest) other → (more : List ℕ) × (other ≡ a ∷ more) × AgreeTo n rest more
agree_rest a rest [] n agree = let bytes = agree.bytes in absurd (cc)
agree_rest a rest (x ∷ more) n agree = let bytes = agree.bytes in (more, cc, record { bytes = cc })

module _ (p : ℕ) (b d : List ℕ) (agree : AgreeTo p b d) where
  -- The byte i is the same,
  pub same_byte : (i : ℕ) → i < p → slice_index d i ≡ slice_index b i
  same_byte i inside = sym (get_or-take p d i 0 inside) ∙ ap (λ (l : List ℕ). get_or l i 0) (sym agree.bytes) ∙ get_or-take p b i 0 inside

  -- and so are n bytes from the byte i on.
  pub same_bytes : (i n : ℕ) → i + n ≤ p → take n (drop i d) ≡ take n (drop i b)
  same_bytes i n inside =
      sym (bytes_inside p d i n inside) ∙ ap (λ (l : List ℕ). take n (drop i l)) (sym agree.bytes) ∙ bytes_inside p b i n inside

  -- If the one reaches so far, the other does.
  pub reaches_too : p ≤ length b → p ≤ length d
  reaches_too within = omega (arith, length-take p b, length-take p d, ap length agree.bytes)
