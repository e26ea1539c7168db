-- Questions that were asked in their order, with nothing wrong.
use Rattle.std.proofs.Common.{◌≡◌, Bool, true, false, Some, None, Option, refl}
use Rattle.std.specs.Option.{option_map, option_or}
use Rattle.measures.specs.Refusals.{ask}

-- where nothing is wrong, each question was answered with yes
pub ask_parts : {X : Type 0} (good : Bool) (x : X) (rest : Option X) → ask good x rest ≡ None → (good ≡ true) × (rest ≡ None)
ask_parts true x rest e = (refl, e)
ask_parts false x rest e = absurd (cc)

-- and where each is, nothing is wrong
pub ask_none : {X : Type 0} (good : Bool) (x : X) (rest : Option X) → good ≡ true → rest ≡ None → ask good x rest ≡ None
ask_none good x rest granted none = rw granted none

-- where the first of two that is there is none, neither is
pub or_parts : {X : Type 0} (o p : Option X) → option_or o p ≡ None → (o ≡ None) × (p ≡ None)
or_parts None p e = (refl, e)
or_parts (Some x) p e = absurd (cc)

-- and where neither is there, the first is none
pub or_none : {X : Type 0} (o p : Option X) → o ≡ None → p ≡ None → option_or o p ≡ None
or_none o p x y = rw x y

-- nothing comes of nothing alone
pub map_part : {X Y : Type 0} (f : X → Y) (o : Option X) → option_map f o ≡ None → o ≡ None
map_part f None e = refl
map_part f (Some x) e = absurd (cc)
