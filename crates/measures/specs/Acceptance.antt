-- The words that a pattern's bytes accept, and what its state sets say of them.
use Rattle.std.specs.Prelude.{◌≡◌, ℕ, ◌^◌, Bool, ◌⊎◌, ◌↔◌, List, [], ◌∷◌, map, IsTrue}
use Rattle.std.specs.List.{AllByRecursion}
use Rattle.bitset.specs.Sets.{Member, has}
use Rattle.history.specs.Events.{Events, Position}
use Rattle.history.specs.Flows.{Longest, word}
use Rattle.measures.specs.Words.{Word, Labels}
use Rattle.measures.specs.Measures.{Meaning, word_value, join_of}
use Rattle.measures.specs.Automata.{next, leads}
use Rattle.measures.specs.Laws.{TellsOfFlows}
use Rattle.measures.specs.Boards.{AtAnswers}
use Rattle.measures.specs.Formats.{labels_in, start_in, finals_in, table_in}

-- the state to which a word leads the automaton in the bytes b
abbrev pub state_after : List ℕ → Word → ℕ
state_after b w = leads (next (labels_in b) (table_in b)) (start_in b) w

-- whether that state is final
abbrev pub accepts : List ℕ → Word → Bool
accepts b w = has (finals_in b) (state_after b w)

-- P holds of some word of the list
abbrev pub Any : (Word → Type 0) → List Word → Type 0
Any P [] = ⊥
Any P (w ∷ ws) = P w ⊎ Any P ws

-- What the measure m and the answers `some` and `all` of a pattern say of words of its labels, in the words of the automaton in
-- its bytes b.
pub record Recognizes (b : List ℕ) (m : Meaning ℕ) (some all : ℕ → Bool) : Type 0 where
  pub labels_are : m.labels ≡ labels_in b
  -- the set of a word holds just the state to which the word leads
  pub one : (w : Word) → Labels (labels_in b) w → word_value m w ≡ 2 ^ state_after b w
  -- the union over a non-empty list of words holds exactly the states to which they lead
  pub union : (w : Word) (ws : List Word) → AllByRecursion (Labels (labels_in b)) (w ∷ ws) → (q : ℕ)
      → Member q (join_of m (word_value m w) (map (word_value m) ws)) ↔ Any (λ v. state_after b v ≡ q) (w ∷ ws)
  -- of one word, both answers say whether it is accepted
  pub some_is : (w : Word) → Labels (labels_in b) w → some (word_value m w) ≡ accepts b w
  pub all_is : (w : Word) → Labels (labels_in b) w → all (word_value m w) ≡ accepts b w

-- What a set and two answers on it say of the longest flows that end at position i of unit u, in the words of the automaton in the bytes b.
pub record Reaches (b : List ℕ) (ev : Events) (u i : ℕ) (set : ℕ) (some all : Bool) : Type 0 where
  -- the set holds exactly the states to which their words lead
  pub states : (q : ℕ) → Member q set ↔ ((f : List Position) × Longest ev u i f × (state_after b (word ev f) ≡ q))
  -- some is yes exactly when one of their words is accepted, all exactly when each is
  pub verdict : TellsOfFlows (λ w. IsTrue (accepts b w)) some all ev u i

-- So it is of the set answered at each accepted mark of every list of calls.
abbrev pub MarksReach : List ℕ → Meaning ℕ → (ℕ → Bool) → (ℕ → Bool) → Type 0
MarksReach b m some all = AtAnswers m (λ ev u i set. Reaches b ev u i set (some set) (all set))
