-- How many messages are on their way, counted over a list or over their numbers.
use Rattle.std.proofs.Common.{◌≡◌, ℕ, zero, suc, ◌+◌, ◌*◌, false, ◌≤◌, Bool, List, length, get_or, take, refl, ap, ◌∙◌, sym, if◌then◌else◌, true, add-one, add-zero, arith}
use Rattle.std.specs.Prelude.{count_by}
use Rattle.std.proofs.lemmas.List.Sums.{count_by_more_no, count_by_more_yes}
use Rattle.history.specs.declared.messages.Post.{Post}
use Rattle.history.specs.Messages.{unsent, is_on_its_way}
use Rattle.causality.specs.Boards.{EachShows, left_among}

-- the count over the first k
left_among_take : (posts : List Post) (k : ℕ) → k ≤ length posts → count_by is_on_its_way (take k posts) ≡ left_among (λ m. get_or posts m unsent) k
left_among_take posts zero h = refl
left_among_take posts (suc k) h = one (is_on_its_way (get_or posts k unsent)) refl (left_among_take posts k (omega arith))
  where
    one : (b : Bool) → is_on_its_way (get_or posts k unsent) ≡ b → count_by is_on_its_way (take k posts) ≡ left_among (λ m. get_or posts m unsent) k
        → count_by is_on_its_way (take (suc k) posts) ≡ left_among (λ m. get_or posts m unsent) k + (if b then 1 else 0)
    one true e before =
        ap (λ (i : ℕ). count_by is_on_its_way (take i posts)) (sym (add-one k))
        ∙ count_by_more_yes is_on_its_way posts k unsent (omega arith) e
        ∙ ap (λ (t : ℕ). t + 1) before
    one false e before = ap (λ (i : ℕ). count_by is_on_its_way (take i posts)) (sym (add-one k)) ∙ count_by_more_no is_on_its_way posts k unsent (omega arith) e ∙ before ∙ sym (add-zero _)

pub count_left_is : (posts : List Post) (k count : ℕ) → k ≤ length posts → count ≡ count_by is_on_its_way (take k posts) → count ≡ left_among (λ m. get_or posts m unsent) k
count_left_is posts k count h e = e ∙ left_among_take posts k h

pub each_shows : {V : Type 0} (start : V) (n k : ℕ) → EachShows start n k
each_shows start n k memory = (
  record {
    rows = λ u j. record { clock = get_or memory.clocks.cells.now (u * n + j) 0; flag = get_or memory.flags.cells.now (u * n + j) false; value = get_or memory.values.cells.now (u * n + j) start };
    message_rows = λ m j. record { clock = get_or memory.clocks.cells.now ((n + m) * n + j) 0; flag = get_or memory.flags.cells.now ((n + m) * n + j) false; value = get_or memory.values.cells.now ((n + m) * n + j) start };
    posts = λ m. get_or memory.posts m unsent;
  },
  record {
    clocks = record { rows = λ u j hu hj. refl; message_rows = λ m j hm hj. refl };
    flags = record { rows = λ u j hu hj. refl; message_rows = λ m j hm hj. refl };
    values = record { rows = λ u j hu hj. refl; message_rows = λ m j hm hj. refl };
    posts = λ m hm. refl;
  },
)
