-- Each list of parse errors has an order by place and code.
use Rattle.hparse.proofs.Names.{Bool, List, IsPermutation, ParseError, code_rank, IsStrictWeakOrder, IsSorted, is_lt, nat_cmp_total, on_total, then_total, ranks_by, inserted, inserted-permutes, inserted-sorted, error_cmp}

abbrev before : ParseError → ParseError → Bool
before a b = is_lt (error_cmp a b)

errors_order : IsStrictWeakOrder before
errors_order = ranks_by (then_total (on_total (λ (e : ParseError). e.at) nat_cmp_total) (on_total (λ (e : ParseError). code_rank e.code) nat_cmp_total))
    (λ (e : ParseError). e)

abbrev pub in_order : List ParseError → List ParseError
in_order = inserted before

pub order-permutes : (xs : List ParseError) → IsPermutation xs (in_order xs)
order-permutes = inserted-permutes before

pub order-sorted : (xs : List ParseError) → IsSorted error_cmp (in_order xs)
order-sorted = inserted-sorted before errors_order
