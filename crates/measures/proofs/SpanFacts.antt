-- The span of a word, and what it shows.
use Rattle.std.proofs.Common.{◌≡◌, ℕ, ◌+◌, ◌≤◌, min, Bool, ◌&&◌, ◌||◌, leb, [], ◌∷◌, length, ap, ◌∙◌, arith}
use Rattle.std.proofs.lemmas.Bool.{lt-ltb, le-leb, leb-true}
use Rattle.std.proofs.lemmas.Bool.Decides.{nat_tests, Decides-at}
use Rattle.measures.specs.declared.spans.Lengths.{Lengths}
use Rattle.measures.specs.Words.{Word, Labels}
use Rattle.measures.specs.Limits.{most_length, most_limit}
use Rattle.measures.specs.Measures.{word_value_from, word_value}
use Rattle.measures.specs.Judges.{Judges}
use Rattle.measures.specs.Spans.{lengths, longer, span}

word_value_lengths : (n k : ℕ) (w : Word) → k ≤ most_length → Labels n w → word_value_from (span n) (lengths k k) w ≡ lengths (min (k + length w) most_length) (min (k + length w) most_length)
word_value_lengths n k [] h ls = ap (λ (j : ℕ). lengths j j) (omega arith)
word_value_lengths n k (l ∷ w) h ls =
    rw (lt-ltb l n ls.0) (word_value_lengths n (longer k) w (omega arith) ls.1 ∙ ap (λ (j : ℕ). lengths j j) (omega arith))

-- Either end of a word's span is within the limit exactly when the word is, since the cap lies above the limit.
pub shows_within : (n limit : ℕ) → limit ≤ most_limit → (op : Bool → Bool → Bool) (end : Lengths → ℕ) → ((k : ℕ) → end (lengths k k) ≡ k) → {admits : Lengths → Type 0}
    → ((a b : Lengths) → leb (end ((span n).join a b)) limit ≡ op (leb (end a) limit) (leb (end b) limit))
    → Judges op (span n) admits (λ v. leb (end v) limit) (λ w. length w ≤ limit)
shows_within n limit low op end both joins = record {
  joins = λ a b _ _. joins a b;
  decides = λ l w ls.
      let k = min (length (l ∷ w)) most_length in
      let e : leb (end (word_value (span n) (l ∷ w))) limit ≡ leb k limit =
      ap (λ (v : Lengths). leb (end v) limit) (word_value_lengths n 0 (l ∷ w) (omega arith) ls)
      ∙ ap (λ (j : ℕ). leb j limit) (both (min (0 + length (l ∷ w)) most_length) ∙ omega arith) in
      Decides-at _ _ e ((λ t. let h = leb-true k limit t in omega arith), (λ g. le-leb k limit (omega arith)));
}

pub shortest_joins : (n limit : ℕ) (a b : Lengths) → leb ((span n).join a b).shortest limit ≡ (leb a.shortest limit || leb b.shortest limit)
shortest_joins n limit a b = grind (arith, nat_tests)

pub longest_joins : (n limit : ℕ) (a b : Lengths) → leb ((span n).join a b).longest limit ≡ (leb a.longest limit && leb b.longest limit)
longest_joins n limit a b = grind (arith, nat_tests)
