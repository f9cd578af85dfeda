-- The line that tells a verdict on a certificate.
use Rattle.std.specs.Prelude.{ℕ, List, ◌++◌, codes, decimal}
use Rattle.cert_checker.specs.declared.verdicts.Reason.{Reason}
use Rattle.cert_checker.specs.declared.verdicts.Reason.TheVariants.{Form, Version, Bound, Weights, Held, Chains, Kept, Path, Ends, Layers}
use Rattle.cert_checker.specs.declared.verdicts.Reason.TheVariants.{Text}
use Rattle.cert_checker.specs.declared.verdicts.Verdict.{Verdict}
use Rattle.cert_checker.specs.declared.verdicts.Verdict.TheVariants.{Yes, No}

-- an entry of the certificate, by its number
abbrev pub entry_words : ℕ → List ℕ
entry_words entry = codes "no: chain " ++ decimal entry

abbrev pub reason_line : Reason → List ℕ
reason_line Form = codes "no: form\n"
reason_line Version = codes "no: version\n"
reason_line Bound = codes "no: bound\n"
reason_line Weights = codes "no: weights\n"
reason_line (Held at) = codes "no: held differs at " ++ decimal at ++ codes "\n"
reason_line (Chains at) = codes "no: chains differ at " ++ decimal at ++ codes "\n"
reason_line (Kept entry) = entry_words entry ++ codes " kept\n"
reason_line (Path entry i j) = entry_words entry ++ codes " may not step " ++ decimal i ++ codes " " ++ decimal j ++ codes "\n"
reason_line (Ends entry) = entry_words entry ++ codes " ends\n"
reason_line (Layers entry i j) = entry_words entry ++ codes " layers allow step " ++ decimal i ++ codes " " ++ decimal j ++ codes "\n"
reason_line (Text at) = codes "no: text differs at " ++ decimal at ++ codes "\n"

abbrev pub verdict_line : Verdict → List ℕ
verdict_line Yes = codes "yes\n"
verdict_line (No reason) = reason_line reason
