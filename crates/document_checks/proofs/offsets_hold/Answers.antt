-- Each way out by the part of the check that decides there.
use mathlib.Core.Path.{sym, ◌∙◌}
use native.Mathlib.Omega.{arith}
use Rattle.documents.specs.Laws.Documents.{offsets-hold-none, offsets-hold-uneven, offsets-hold-past, offsets-hold-rest}
use Rattle.document_checks.proofs.offsets_hold.Goals as goal

pub returns-then-n-eq0 : goal.returns-then-n-eq0
returns-then-n-eq0 c = let a = c.args in sym (offsets-hold-none a.documents.offsets.now a.documents.components.now a.documents.values.now c.if-n-eq0.true)

pub returns-then-documents : goal.returns-then-documents
returns-then-documents c =
    let a = c.args in sym (offsets-hold-uneven a.documents.offsets.now a.documents.components.now a.documents.values.now c.if-documents.true)

pub returns-then-documents-n : goal.returns-then-documents-n
returns-then-documents-n c =
    let a = c.args in
    sym (offsets-hold-past a.documents.offsets.now a.documents.components.now a.documents.values.now (omega arith) c.if-documents-n.true)

pub returns : goal.returns
returns c =
    let a = c.args in
    c.offsets_hold_free.ensures ∙ sym (offsets-hold-rest a.documents.offsets.now a.documents.components.now a.documents.values.now (omega arith) (omega arith) (omega arith))
