use Rattle.json_scan.proofs.Prefixes.{stops-longest, longest-found, longest-unique}
use Rattle.json_scan.proofs.laws.stops_behind_longest_prefix.Goals as goal

pub returns-clause-place : goal.returns-clause-place
returns-clause-place c = λ least text at utf8 broken. stops-longest least text at utf8 broken

pub returns-clause-exists : goal.returns-clause-exists
returns-clause-exists c = λ text utf8. let found = longest-found text utf8 in (found.0, found.1)

pub returns-clause-unique : goal.returns-clause-unique
returns-clause-unique c = λ text n m a b. longest-unique text n m a b
