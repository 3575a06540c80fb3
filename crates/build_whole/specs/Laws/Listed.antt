-- The postings of a list whose documents' ranges can be packed are their packed ranges.
use Rattle.std.specs.Prelude.{ℕ, ◌≡◌, refl, true, List, [], ◌∷◌, map, leb, ltb}
use Rattle.std.proofs.Common.{ap, ◌∙◌, ltb-true, leb-true}
use Rattle.sequences.specs.Lists.{EachOf}
use Rattle.sequences.specs.Laws.Lists.{every-each}
use Rattle.packing.specs.Packing as range
use Rattle.packing.specs.Laws.Packing.{packs-length}
use Rattle.documents.specs.Documents.{Documents, start, size, packed}
use Rattle.build_admission.specs.Admission.{starts_fit, lengths_fit}
use Rattle.build_meaning.specs.Built.{Input, blocks}
use Rattle.build_layout.specs.Laid.{packed_number, posting_of}
use Rattle.build_meaning.specs.Laws.Stored.{documents-each}

-- ---- a document whose range can be packed
posting-packed : (d : Documents) (i : ℕ) → ltb (start d i) range.start_limit ≡ true → leb (size d i) range.length_limit ≡ true → posting_of d i ≡ packed d i
posting-packed d i a b = ap packed_number (packs-length (start d i) (size d i) (ltb-true (start d i) range.start_limit a) (leb-true (size d i) range.length_limit b))

pub postings-packed : (g : Input) → starts_fit g.documents g.ids ≡ true → lengths_fit g.documents g.ids ≡ true → map (posting_of g.documents) (blocks g).documents
    ≡ map (packed g.documents) (blocks g).documents
postings-packed g a b =
    let d = g.documents in
    go (blocks g).documents (documents-each (λ i. ltb (start d i) range.start_limit ≡ true) g (every-each (λ i. ltb (start d i) range.start_limit) g.ids a))
    (documents-each (λ i. leb (size d i) range.length_limit ≡ true) g (every-each (λ i. leb (size d i) range.length_limit) g.ids b))
  where
    go : (l : List ℕ) → EachOf (λ i. ltb (start g.documents i) range.start_limit ≡ true) l → EachOf (λ i. leb (size g.documents i) range.length_limit ≡ true) l → map (posting_of g.documents) l
        ≡ map (packed g.documents) l
    go [] a b = refl
    go (i ∷ l) a b = ap (λ n. n ∷ map (posting_of g.documents) l) (posting-packed g.documents i a.0 b.0) ∙ ap (λ r. packed g.documents i ∷ r) (go l a.1 b.1)
