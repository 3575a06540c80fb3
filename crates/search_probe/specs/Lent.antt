-- A query's terms and those of all documents, as slices lend them.
use Rattle.documents.specs.declared.Terms.{Terms as TermsLent}
use Rattle.search_probe.specs.Probed.{Terms, terms}

abbrev pub lent_terms : TermsLent → TermsLent → Terms
lent_terms query all = terms query.components.now query.values.now all.components.now all.values.now
