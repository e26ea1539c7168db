use Rattle.std.proofs.Common.{◌≡◌, length, rules, sym, ◌∙◌, ap, arith, length-take, length-drop}
use Rattle.measures.proofs.TableFacts.{below_bound}
use Rattle.measures.proofs.tables.table.Goals as goal

pub returns-in-None : goal.returns-in-None
returns-in-None c =
    let t = c.in-Some.table.now in
    let all : length t ≡ c.args.count = ap length c.in-Some.ensures.1 ∙ simp (length-take, length-drop) (omega (arith, c.in-Some.ensures.0)) in
    (search rules, c.in-Some.ensures.1, all, λ k l. below_bound c.args.bound t (sym c.first_too_large.ensures ∙ c.in-None.is) k (omega arith))
