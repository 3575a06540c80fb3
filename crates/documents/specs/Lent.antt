-- Documents as three slices lend them.
use Rattle.documents.specs.declared.Documents.{Documents as DocumentsLent}
use Rattle.documents.specs.declared.Terms.{Terms as TermsLent}
use Rattle.documents.specs.Documents.{Documents, Term, documents, paired}
use mathlib.Core.List.{List}

-- what the three slices hold
abbrev pub lent : DocumentsLent → Documents
lent d = documents d.offsets.now d.components.now d.values.now

-- the terms that two slices hold
abbrev pub terms_lent : TermsLent → List Term
terms_lent t = paired t.components.now t.values.now
