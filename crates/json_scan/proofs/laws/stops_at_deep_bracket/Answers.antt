use Rattle.json_scan.proofs.Prefixes.{deep-stops, stops-deep}
use Rattle.json_scan.proofs.laws.stops_at_deep_bracket.Goals as goal

pub returns : goal.returns
returns c = λ text n at long. (λ deep. (deep.before, deep-stops text n at long deep), λ stop. stops-deep text n at long stop.0 stop.1)
