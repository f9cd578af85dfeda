-- The quotient of twice the bound by a weight.
use Rattle.chain_reach.proofs.Numbered.{steps_of, at_least_one, not_below_zero}
use Rattle.chain_reach.proofs.steps.Steps.of.Goals as goal

pub returns-clause-across : goal.returns-clause-across
returns-clause-across c = steps_of c.args.weights.x c.args.bound c.weight_across.result c.units-twice.result c.quotient.result
    c.weight_across.ensures.value c.units-twice.ensures.value c.quotient.ensures.low c.quotient.ensures.high

pub returns-clause-up : goal.returns-clause-up
returns-clause-up c = steps_of c.args.weights.y c.args.bound c.weight_up.result c.units-twice.result c.quotient-2.result
    c.weight_up.ensures.value c.units-twice.ensures.value c.quotient-2.ensures.low c.quotient-2.ensures.high

pub returns-clause-in_range : goal.returns-clause-in_range
returns-clause-in_range c = (
  at_least_one c.args.weights.x c.weight_across.result c.weight_across.ensures.value c.weight_across.ensures.some,
  at_least_one c.args.weights.y c.weight_up.result c.weight_up.ensures.value c.weight_up.ensures.some,
  not_below_zero c.args.bound c.units-twice.result c.units-twice.ensures.value,
)
