-- Worked runs, and what the rules make of them.
use Rattle.std.specs.Prelude.{◌≡◌, ℕ, ◌+◌, Bool, true, false, List, [], ◌∷◌, map, length, reverse, Some, None, Err, Option, if◌then◌else◌, nat_lt, ◌==◌}
use Rattle.std.specs.List.{AllByRecursion, range_with_len}
use Rattle.std.specs.Option.{option_map, option_and_then, unwrap_or}
use Rattle.bitset.specs.Sets.{meets, within}
use Rattle.history.specs.declared.precedence.Precedence.{Precedence}
use Rattle.history.specs.declared.precedence.Precedence.TheVariants.{Precedes, Concurrent}
use Rattle.history.specs.declared.refusals.Refusal.{Refusal}
use Rattle.history.specs.declared.refusals.Refusal.TheVariants.{NoSuchUnit, NoSuchMessage, NeverSent}
use Rattle.history.specs.Board.{Reply, run, outcome}
use Rattle.history.specs.declared.calls.Answer.{Answer}
use Rattle.history.specs.declared.calls.Answer.TheVariants.{Sent, Received, Marked}
use Rattle.history.specs.Events.{at}
use Rattle.history.specs.declared.calls.Event.TheVariants.{Mark, Receive, Send}
use Rattle.history.specs.declared.calls.Event.{Event}
use Rattle.history.specs.Precedence.{stamp_order}
use Rattle.history.specs.Limits.{most_marks}
use Rattle.history.specs.Runs.{call}
use Rattle.history.specs.declared.calls.Call.{Call}
use Rattle.measures.specs.Words.{Letter, Word}
use Rattle.measures.specs.Measures.{Meaning}
use Rattle.measures.specs.Automata.{state_sets}
use Rattle.measures.specs.Counts.{flow_count}
use Rattle.measures.specs.Formats.{states_in, labels_in, start_in, finals_in, table_in}
use Rattle.measures.specs.Spans.{lengths, span}
use Rattle.measures.specs.Worths.{measured_payload, measured_size}

-- A run on a board of some units and messages, whose marks have so many labels.
pub record WorkedRun : Type 0 where
  pub units : ℕ
  pub messages : ℕ
  pub labels : ℕ
  pub calls : List Call

-- A pattern's bytes. Labels: 0 beacon, 1 waiting, 2 sound. A flow is good if it is made of rounds, one or more: a waiting, then waitings and beacons of which the last is a beacon, then a sound.
abbrev pub wake_up_bytes : List ℕ
wake_up_bytes =
    0x20 ∷ 5 ∷ 3 ∷ 0 ∷ 8 ∷ 0 ∷ 0 ∷ 0 ∷ 0 ∷ 0 ∷ 0 ∷ 0
    ∷ 4 ∷ 1 ∷ 4 ∷ 2 ∷ 1 ∷ 4 ∷ 2 ∷ 1 ∷ 3 ∷ 4 ∷ 1 ∷ 4 ∷ 4 ∷ 4 ∷ 4 ∷ []

-- the measure of the pattern in these bytes
abbrev pub wake_up : Meaning ℕ
wake_up = state_sets (states_in wake_up_bytes) (labels_in wake_up_bytes) (start_in wake_up_bytes) (table_in wake_up_bytes)

-- its set of final states
abbrev pub awake : ℕ
awake = finals_in wake_up_bytes

-- no letter, once
abbrev pub empty_once : Word → ℕ
empty_once [] = 1
empty_once (x ∷ w) = 0

-- what f says of words, of the same words with l put first
abbrev pub put_first : Letter → (Word → ℕ) → Word → ℕ
put_first l f [] = 0
put_first l f (x ∷ w) = if x == l then f w else 0

-- The measure that tells of each word, the last letter first, how many flows have it.
abbrev pub words : ℕ → Meaning (Word → ℕ)
words n = record {
  labels = n;
  start = empty_once;
  step = λ f l. if nat_lt l n then put_first l f else f;
  join = λ f g w. f w + g w;
}

-- what the event at position i of unit u was answered under a measure
abbrev pub reply_to : {V : Type 0} → Meaning V → WorkedRun → ℕ → ℕ → Option (Reply V)
reply_to m r u i = at (run (measured_payload m r.units) (measured_size m r.units r.messages most_marks) r.calls).replies u i

-- Something found of a run.
pub data Finding : Type 0 where
  -- the mark at a place of a unit: its own number, the units of its immediate predecessors as a number, and its stamp
  mark_is : (unit place number predecessors : ℕ) → List ℕ → Finding
  -- its set of states, and whether some and whether all of its flows are good
  set_is : (unit place set : ℕ) → Bool → Bool → Finding
  -- how many flows end at it, and how many marks the shortest and the longest have
  flows_are : (unit place flows shortest longest : ℕ) → Finding
  -- the words of these flows
  words_are : (unit place : ℕ) → List Word → Finding
  -- how one mark stands to another
  order_is : (unit place other_unit other_place : ℕ) → Precedence → Finding
  -- one more call, and why it is refused
  refusal_is : (unit : ℕ) → Event → Refusal → Finding

-- the own number and the predecessors that a mark was answered
abbrev pub mark_in : {V : Type 0} → Answer V → Option (ℕ × ℕ)
mark_in (Sent c) = None
mark_in (Received c) = None
mark_in (Marked m) = Some (m.clock, m.predecessors)

-- the value that a mark was answered
abbrev pub value_in : {V : Type 0} → Answer V → Option V
value_in (Sent c) = None
value_in (Received c) = None
value_in (Marked m) = Some m.value

-- how many flows have a word, by what the measure of words tells
abbrev pub having : Word → (Word → ℕ) → ℕ
having w f = f (reverse w)

module _ (r : WorkedRun) where
  -- what the event at position i of unit u was answered under the flow count
  abbrev count_reply : ℕ → ℕ → Option (Reply ℕ)
  count_reply u i = reply_to (flow_count r.labels) r u i

  -- the stamp of the mark at position i of unit u
  abbrev stamp_at : ℕ → ℕ → ℕ → ℕ
  stamp_at u i v = unwrap_or (option_map (λ x. x.stamp v) (count_reply u i)) 0

  -- What each finding says.
  abbrev pub Found : Finding → Type 0
  Found (mark_is u i number predecessors stamp) =
      (option_and_then (λ x. mark_in x.answer) (count_reply u i) ≡ Some (number, predecessors))
      × (map (stamp_at u i) (range_with_len 0 r.units) ≡ stamp)
  Found (set_is u i set some all) =
      (option_and_then (λ x. value_in x.answer) (reply_to wake_up r u i) ≡ Some set)
      × (meets set awake ≡ some) × (within set awake ≡ all)
  Found (flows_are u i flows shortest longest) =
      (option_and_then (λ x. value_in x.answer) (count_reply u i) ≡ Some flows)
      × (option_and_then (λ x. value_in x.answer) (reply_to (span r.labels) r u i) ≡ Some (lengths shortest longest))
  Found (words_are u i ws) =
      (option_and_then (λ x. value_in x.answer) (count_reply u i) ≡ Some (length ws))
      × AllByRecursion (λ w. option_map (having w) (option_and_then (λ x. value_in x.answer) (reply_to (words r.labels) r u i)) ≡ Some 1) ws
  Found (order_is u i v j order) = stamp_order (stamp_at u i) (stamp_at v j) u v ≡ order
  Found (refusal_is u e refusal) =
      outcome (measured_payload (flow_count r.labels) r.units) (measured_size (flow_count r.labels) r.units r.messages most_marks)
      (run (measured_payload (flow_count r.labels) r.units) (measured_size (flow_count r.labels) r.units r.messages most_marks) r.calls).contents (call u e)
      ≡ Err refusal

-- a run and what is found of it
pub record Case : Type 0 where
  pub worked : WorkedRun
  pub findings : List Finding

abbrev pub player_waits_first : Case
player_waits_first = record {
  worked = record {
    units = 2;
    messages = 2;
    labels = 3;
    calls = call 1 (Mark 1) ∷ call 1 (Send 0) ∷ call 0 (Receive 0) ∷ call 0 (Mark 0) ∷ call 0 (Send 1) ∷ call 1 (Receive 1) ∷ call 1 (Mark 2) ∷ [];
  };
  findings = mark_is 1 3 2 1 (1 ∷ 2 ∷ []) ∷ set_is 1 3 8 true true ∷ flows_are 1 3 1 3 3 ∷ [];
}

abbrev pub lost_wake_up : Case
lost_wake_up = record {
  worked = record {
    units = 2;
    messages = 2;
    labels = 3;
    calls = call 0 (Mark 0) ∷ call 0 (Send 1) ∷ call 1 (Mark 1) ∷ call 1 (Send 0) ∷ call 1 (Receive 1) ∷ call 0 (Receive 0) ∷ call 1 (Mark 2) ∷ [];
  };
  findings = mark_is 1 3 2 3 (1 ∷ 2 ∷ []) ∷ set_is 1 3 16 false false ∷ flows_are 1 3 2 2 2 ∷ [];
}

-- The run that docs/LAW.md draws; the labels 0 to 5 are its a to f.
abbrev pub three_flows_into_one_mark : Case
three_flows_into_one_mark = record {
  worked = record {
    units = 3;
    messages = 3;
    labels = 6;
    calls = call 0 (Mark 0) ∷ call 0 (Send 0) ∷ call 0 (Mark 1) ∷ call 2 (Mark 3) ∷ call 2 (Send 1) ∷ call 1 (Receive 0) ∷ call 1 (Receive 1) ∷ call 1 (Mark 4)
        ∷ call 1 (Mark 5) ∷ call 1 (Send 2) ∷ call 0 (Receive 2) ∷ call 0 (Mark 2) ∷ [];
  };
  findings = mark_is 0 0 1 0 (1 ∷ 0 ∷ 0 ∷ []) ∷ mark_is 0 2 2 1 (2 ∷ 0 ∷ 0 ∷ []) ∷ mark_is 2 0 1 0 (0 ∷ 0 ∷ 1 ∷ []) ∷ mark_is 1 2 1 5 (1 ∷ 1 ∷ 1 ∷ [])
      ∷ mark_is 1 3 2 2 (1 ∷ 2 ∷ 1 ∷ []) ∷ mark_is 0 4 3 3 (3 ∷ 2 ∷ 1 ∷ [])
      ∷ flows_are 0 0 1 1 1 ∷ flows_are 0 2 1 2 2 ∷ flows_are 2 0 1 1 1 ∷ flows_are 1 2 2 2 2 ∷ flows_are 1 3 2 3 3 ∷ flows_are 0 4 3 3 4
      ∷ words_are 0 4 ((0 ∷ 1 ∷ 2 ∷ []) ∷ (0 ∷ 4 ∷ 5 ∷ 2 ∷ []) ∷ (3 ∷ 4 ∷ 5 ∷ 2 ∷ []) ∷ [])
      ∷ order_is 0 0 0 4 Precedes ∷ order_is 0 2 1 2 Concurrent ∷ [];
}

abbrev pub message_overtaken_by_an_indirect_one : Case
message_overtaken_by_an_indirect_one = record {
  worked = record {
    units = 3;
    messages = 3;
    labels = 1;
    calls = call 0 (Mark 0) ∷ call 0 (Send 0) ∷ call 0 (Send 1) ∷ call 1 (Receive 0) ∷ call 1 (Mark 0) ∷ call 1 (Send 2) ∷ call 2 (Receive 1) ∷ call 2 (Receive 2) ∷ call 2 (Mark 0) ∷ [];
  };
  findings = mark_is 2 2 1 2 (1 ∷ 1 ∷ 1 ∷ []) ∷ flows_are 2 2 1 3 3 ∷ [];
}

abbrev pub two_messages_from_one_mark : Case
two_messages_from_one_mark = record {
  worked = record {
    units = 2;
    messages = 2;
    labels = 1;
    calls = call 0 (Mark 0) ∷ call 0 (Send 0) ∷ call 0 (Send 1) ∷ call 1 (Receive 0) ∷ call 1 (Receive 1) ∷ call 1 (Mark 0) ∷ [];
  };
  findings = mark_is 1 2 1 1 (1 ∷ 1 ∷ []) ∷ flows_are 1 2 1 2 2 ∷ [];
}

abbrev pub unit_hears_itself : Case
unit_hears_itself = record {
  worked = record {
    units = 1;
    messages = 1;
    labels = 1;
    calls = call 0 (Mark 0) ∷ call 0 (Send 0) ∷ call 0 (Mark 0) ∷ call 0 (Receive 0) ∷ call 0 (Mark 0) ∷ [];
  };
  findings = mark_is 0 4 3 1 (3 ∷ []) ∷ flows_are 0 4 1 3 3 ∷ [];
}

abbrev pub refusals_on_a_new_board : Case
refusals_on_a_new_board = record {
  worked = record { units = 2; messages = 2; labels = 1; calls = [] };
  findings = refusal_is 2 (Send 9) NoSuchUnit ∷ refusal_is 0 (Send 2) NoSuchMessage ∷ refusal_is 0 (Receive 0) NeverSent ∷ [];
}

abbrev pub cases : List Case
cases =
    player_waits_first ∷ lost_wake_up ∷ three_flows_into_one_mark ∷ message_overtaken_by_an_indirect_one ∷ two_messages_from_one_mark ∷ unit_hears_itself
    ∷ refusals_on_a_new_board ∷ []

-- Every finding of every case is so.
abbrev pub RunsAsWorked : Type 0
RunsAsWorked = AllByRecursion (λ c. AllByRecursion (Found c.worked) c.findings) cases
