-- That a certificate has one verdict for a map.
use Rattle.std.specs.Prelude.{◌≡◌, ℕ, List}
use Rattle.arc_map.specs.Chains.{Chain}
use Rattle.arc_map.specs.Work.{Work}
use Rattle.cert_format.specs.Certificate.{Content}
use Rattle.cert_checker.specs.Judged.{Demand, IsJudged}
use Rattle.cert_checker.specs.declared.verdicts.Verdict.{Verdict}

-- No certificate has two verdicts for one map, nor two outcomes.
abbrev pub JudgedOnce : Type 0
JudgedOnce = (d : Demand) (held : List ℕ) (w : Work) (c : Content) (first second : Verdict) (here there : List Chain)
    → IsJudged d held w c first here → IsJudged d held w c second there → (first ≡ second) × (here ≡ there)
