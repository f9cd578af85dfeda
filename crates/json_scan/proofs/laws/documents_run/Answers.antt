use Rattle.json_scan.proofs.Documents.{document-read, document-found}
use Rattle.json_scan.proofs.laws.documents_run.Goals as goal

pub returns-clause-each : goal.returns-clause-each
returns-clause-each c = λ limit d is deep. document-read limit d is deep

pub returns-clause-only : goal.returns-clause-only
returns-clause-only c = λ limit text nodes ran. document-found limit text nodes ran
