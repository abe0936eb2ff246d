-- A character of a comment or a doctype, and the input's end in it, or after `<!`.
use Rattle.htoken.proofs.Names.{◌≡◌, ℕ, true, false, List, [], ◌∷◌, ◌++◌, sym, refl, ap, ◌∙◌, subst, Result, Ok, Err, append-nil, IncorrectlyOpenedComment, ParseError, Placed, RawKind, Refusal, Texts, all, place, error, is_plain_in_bogus, Entities, Bogus, IsCommentOf, WalkEnds, Raised, Tokenizer, IsDataSpan, is_declaration, bogus_declaration, Span, Event, Comment, gives_item, Reads, IsHeld, EndsHeld, held_ran_out, held_ended, less, Keeps, BeginsBogus, GivesSpan, Handed, HandedMeans, Bool, append_assoc, Memory, Hands, State, Tok, Item, Standing, next, has_refused, Takes, IsStateOf, IsLast, IsInMarkup, EndsDoctype, doctype_ran_out, doctype_given, doctype_token, WalkTakes, walk_ran_out, sink_refused, walk_goes_on, walk_ended, raises}
use Rattle.names.specs.declared.raw.RawKind.TheVariants as kind
use Rattle.htoken.specs.declared.state.State.TheVariants as state
use Rattle.htoken.proofs.Going.{no_script, stands_at_end, held_in, kind_in, stays_both, goes_on, spans_end, ran_out_of}
use Rattle.htoken.proofs.Handing.{span_given}
use Rattle.htoken.proofs.InData.{in_data, between_data}

-- a step of the errors that are kept
abbrev pub keeps : Raised → ParseError → Result (Unit {0}) Refusal → Raised → Type 0
keeps s error r t = raises s.errors.items error r t.errors.items

pub kept : (s t : Raised) (es : List ParseError) → Hands keeps s es (Ok tt) t → t.errors.items ≡ s.errors.items ++ es
kept s t [] h = cc (h.1, append-nil s.errors.items)
kept s t (e ∷ es) (Ok u, next, given, more) = cc (kept next t es more, append_assoc s.errors.items (e ∷ []) es)
kept s t (e ∷ es) (Err x, next, given, more) = let never = more.0 in absurd cc

pub refused : (s t : Raised) (es : List ParseError) (x : Refusal) → Hands keeps s es (Err x) t → x ≡ Memory
refused s t [] x h = let never = h.0 in absurd cc
refused s t (e ∷ es) x (Ok u, next, given, more) = refused next t es x more
refused s t (e ∷ es) x (Err y, next, given, more) = let is = more.0 in let why : y ≡ Memory = given in cc

-- more characters of a comment or a doctype are read
pub markup_more : {W V : Type 0} (HasRead : W → List Placed → List ParseError → Type 0) (IsOne : ℕ → List Placed → List Placed → V → List ParseError → Type 0)
    (token : V → ℕ → Tok) (table : Entities) (t : Tokenizer) (held run : List Placed) (walk : W) (i : IsInMarkup HasRead IsOne token walk table t held run)
    (new : Tokenizer) (then : W) (reported : List ParseError) → new.at ≡ t.at → new.raised.errors.items ≡ t.raised.errors.items ++ reported
    → HasRead then (i.body ++ run) (i.own ++ reported) → IsInMarkup HasRead IsOne token then table new (held ++ run) []
markup_more HasRead IsOne token table t held run walk i new then reported at_is raised has = record {
  opening = i.opening;
  body = i.body ++ run;
  first = i.first;
  own = i.own ++ reported;
  others = i.others ++ run;
  starts = cc;
  held_is = cc (append_assoc i.opening i.body run);
  has_read = has;
  raised_is = cc (append_assoc i.first i.own reported);
  opens = λ end rest more contents errors is.
      let same_text : (i.body ++ run) ++ more ≡ i.body ++ (run ++ more) = append_assoc i.body run more in
      rw same_text (rw at_is (i.opens end rest more contents errors (rw (← same_text) is)));
}

module _ {S W V : Type 0} (gives : S → ParseError → Result (Unit {0}) Refusal → S → Type 0) (gives_token : S → Handed → Result (Unit {0}) Refusal → S → Type 0)
    {HasRead : W → List Placed → List ParseError → Type 0} {IsOne : ℕ → List Placed → List Placed → V → List ParseError → Type 0} {token : V → ℕ → Tok}
    (given : (here : Standing) (text : List Placed) (value : V) (at : ℕ) (errors : List ParseError) → ((next here
    (record { text = text; tokens = token value at ∷ []; errors = errors })).kind ≡ kind.None)
    × ((next here (record { text = text; tokens = token value at ∷ []; errors = errors })).name ≡ here.name) × (has_refused (token value at ∷ []) ≡ false))
    {table : Entities} {start : RawKind} {text : List Placed} {names : Texts} {taken : List Event} {t : Tokenizer} where
  module _ {p : Placed} (h : Reads table start t names text (p ∷ []) taken) (here_is : h.here.kind ≡ kind.None) {walk : W}
      (i : IsInMarkup HasRead IsOne token walk table t h.held (p ∷ [])) where
    abbrev pub Took : Result Bool Refusal → W → V → Raised → Type 0
    Took answer new value raised = WalkTakes keeps HasRead IsOne i.body i.own p t.raised answer new value raised

    pub markup_stopped : (r : Refusal) (new : W) (value : V) (raised : Raised) (s : S) (last : Tokenizer) → Took (Err r) new value raised
        → Takes (gives_item gives gives_token) table start text (p ∷ []) taken names s (Err r) s last
    markup_stopped r new value raised s last (walk_ran_out reported e hd b) = ran_out_of h (ap (λ (x : Refusal). Err x) cc)
    markup_stopped r new value raised s last (sink_refused x reported e hd b) = let why : x ≡ Memory = refused t.raised raised reported x hd in
        ran_out_of h (ap (λ (y : Refusal). Err y) cc)
    markup_stopped r new value raised s last (walk_goes_on reported e hd has) = absurd cc
    markup_stopped r new value raised s last (walk_ended reported e hd is) = absurd cc

    pub markup_goes_on : (new : Tokenizer) (then : W) (value : V) (s : S) (in_state : State) → new.state ≡ in_state → Keeps t new
        → IsStateOf in_state h.here.kind
        → (IsInMarkup HasRead IsOne token then table new (h.held ++ p ∷ []) [] → IsHeld in_state table names h.here new (h.held ++ p ∷ []) [])
        → Took (Ok false) then value new.raised → Takes (gives_item gives gives_token) table start text (p ∷ []) taken names s (Ok tt) s new
    markup_goes_on new then value s in_state same keep is_in holds (walk_goes_on reported e hd has) =
        goes_on h new s in_state same keep.stays keep.kind_is keep.last_is is_in
        (holds (markup_more HasRead IsOne token table t h.held (p ∷ []) walk i new then reported keep.at_is (kept t.raised new.raised reported hd) has))
    markup_goes_on new then value s in_state same keep is_in holds (walk_ran_out reported e hd b) = absurd cc
    markup_goes_on new then value s in_state same keep is_in holds (sink_refused x reported e hd b) = absurd cc
    markup_goes_on new then value s in_state same keep is_in holds (walk_ended reported e hd is) = absurd cc

    pub markup_ends : (mid new : Tokenizer) (then : W) (value : V) (old s : S) (answer : Result (Unit {0}) Refusal) → Keeps t mid
        → Took (Ok true) then value mid.raised
        → GivesSpan (gives_item gives gives_token) (λ names x. HandedMeans names x (token value mid.at)) mid old answer new s
        → Takes (gives_item gives gives_token) table start text (p ∷ []) taken names old answer s new
    markup_ends mid new then value old s answer keep (walk_ended reported e hd is) g =
        let raised : mid.raised.errors.items ≡ i.first ++ (i.own ++ reported) = cc
        (kept t.raised mid.raised reported hd, append_assoc i.first i.own reported) in
        let span : Span = record { text = i.opening ++ (i.body ++ p ∷ []); tokens = token value mid.at ∷ []; errors = mid.raised.errors.items } in
        let k = given h.here span.text value mid.at span.errors in
        spans_end (gives_item gives gives_token) h span (sym (ap (λ (x : List Placed). x ++ p ∷ []) i.held_is ∙ append_assoc i.opening i.body (p ∷ [])))
        (λ end more. in_data table end h.here more span here_is (rw raised (rw keep.at_is (i.opens end more [] value (i.own ++ reported) (is end more))))) k.2
        new old s answer (stays_both t mid new keep.stays g.ends.keeps.stays) (g.ends.keeps.kind_is ∙ keep.kind_is ∙ h.kind_is ∙ here_is ∙ sym k.0)
        (rw (g.ends.keeps.last_is ∙ keep.last_is) (subst (IsLast names t.last) (sym k.1) h.name_is)) g.ends.state_is g.ends.raised_is (between_data _ new k.0)
        (span_given gives gives_token names mid.raised.errors.items g.token (token value mid.at) old s answer (g.means names) g.handed)
    markup_ends mid new then value old s answer keep (walk_ran_out reported e hd b) g = absurd cc
    markup_ends mid new then value old s answer keep (sink_refused x reported e hd b) g = absurd cc
    markup_ends mid new then value old s answer keep (walk_goes_on reported e hd has) g = absurd cc

  -- where the input ends
  module _ (end : ℕ) (h : Reads table start t names text [] taken) (here_is : h.here.kind ≡ kind.None) {walk : W}
      (i : IsInMarkup HasRead IsOne token walk table t h.held []) where
    abbrev pub Ended : Result (Unit {0}) Refusal → V → Raised → Type 0
    Ended answer value raised = WalkEnds keeps IsOne i.body i.own end value t.raised answer raised

    pub markup_end_stopped : (r : Refusal) (value : V) (raised : Raised) (then : Tokenizer) (s : S) → Ended (Err r) value raised
        → EndsHeld (gives_item gives gives_token) table start end text taken names s (Err r) then s
    markup_end_stopped r value raised then s e = held_ran_out (ap (λ (x : Refusal). Err x) (refused t.raised raised e.reported r e.handed)) refl

    pub markup_cut : (mid : Tokenizer) {new : Tokenizer} (value : V) (old s : S) (answer : Result (Unit {0}) Refusal) → Keeps t mid
        → Ended (Ok tt) value mid.raised → GivesSpan (gives_item gives gives_token) (λ names x. HandedMeans names x (token value mid.at)) mid old answer new s
        → EndsHeld (gives_item gives gives_token) table start end text taken names old answer new s
    markup_cut mid value old s answer keep e g =
        let raised : mid.raised.errors.items ≡ i.first ++ (i.own ++ e.reported) = cc
        (kept t.raised mid.raised e.reported e.handed, append_assoc i.first i.own e.reported) in
        let span : Span = record { text = i.opening ++ i.body; tokens = token value mid.at ∷ []; errors = mid.raised.errors.items } in
        let k = given h.here span.text value mid.at span.errors in
        held_ended _ _ (g.ends.keeps.kind_is ∙ keep.kind_is ∙ h.kind_is ∙ here_is ∙ sym k.0) (no_script _ k.0)
        (stands_at_end h end span i.held_is (in_data table end h.here [] span here_is
        (rw raised (rw keep.at_is (rw (← (append-nil i.body)) (i.opens end [] [] value (i.own ++ e.reported) (rw (append-nil i.body) e.is_span)))))) k.2)
        (span_given gives gives_token names mid.raised.errors.items g.token (token value mid.at) old s answer (g.means names) g.handed)

-- a doctype has ended: what is so where it was handed over is so, or memory ran out
module _ {S : Type 0} {gives : S → Item → Result (Unit {0}) Refusal → S → Type 0} (P : Result (Unit {0}) Refusal → S → Type 0) {old : S} where
  pub doctype_ends : (mid new : Tokenizer) (s : S) (answer : Result (Unit {0}) Refusal) → (answer ≡ Err Memory → P answer old)
      → (GivesSpan gives (λ names token. HandedMeans names token (doctype_token mid.doctype.found mid.at)) mid old answer new s → P answer s)
      → EndsDoctype gives mid old answer new s → P answer s
  doctype_ends mid new s answer out given (doctype_ran_out is same) = subst (P answer) (sym same) (out is)
  doctype_ends mid new s answer out given (doctype_given g) = given g

module _ {S : Type 0} (gives : S → ParseError → Result (Unit {0}) Refusal → S → Type 0) (gives_token : S → Handed → Result (Unit {0}) Refusal → S → Type 0)
    {table : Entities} {start : RawKind} (end : ℕ) {text : List Placed} {names : Texts} {taken : List Event} {t : Tokenizer}
    (h : Reads table start t names text [] taken) (at : ℕ) (after_bang : t.state ≡ state.MarkupDeclarationOpen at) where
  abbrev body : List Placed
  body = t.held.items

  abbrev mark : List Placed
  mark = less t ∷ record { ch = 33; at = at } ∷ []

  abbrev e : ParseError
  e = error IncorrectlyOpenedComment (place end body)

  abbrev declared : IsHeld (state.MarkupDeclarationOpen at) table names h.here t h.held []
  declared = held_in h (state.MarkupDeclarationOpen at) after_bang

  pub declared_plain : all is_plain_in_bogus body ≡ true
  declared_plain = declared.2.plain

  here_is : h.here.kind ≡ kind.None
  here_is = kind_in h (state.MarkupDeclarationOpen at) after_bang

  abbrev pub EndsIn : Tokenizer → Result (Unit {0}) Refusal → Raised → Type 0
  EndsIn begun answer raised = WalkEnds keeps (IsCommentOf Bogus) body [] end begun.comment.data begun.raised answer raised

  pub declared_stopped : (begun then : Tokenizer) (raised : Raised) (r : Refusal) (s : S) → EndsIn begun (Err r) raised
      → EndsHeld (gives_item gives gives_token) table start end text taken names s (Err r) then s
  declared_stopped begun then raised r s k = held_ran_out (ap (λ (x : Refusal). Err x) (refused begun.raised raised k.reported r k.handed)) refl

  pub declared_cut : (begun mid : Tokenizer) {new : Tokenizer} (old s : S) (answer : Result (Unit {0}) Refusal) → BeginsBogus t body e begun → Keeps begun mid
      → mid.comment ≡ begun.comment → EndsIn begun (Ok tt) mid.raised
      → GivesSpan (gives_item gives gives_token) (λ names x. HandedMeans names x (Comment mid.comment.data mid.at)) mid old answer new s
      → EndsHeld (gives_item gives gives_token) table start end text taken names old answer new s
  declared_cut begun mid old s answer b keep same k g =
      let raised : mid.raised.errors.items ≡ e ∷ k.reported = kept begun.raised mid.raised k.reported k.handed
      ∙ ap (λ (x : List ParseError). x ++ k.reported) (b.raised_is ∙ ap (λ (x : List ParseError). x ++ e ∷ []) declared.1) in
      let span : Span = record { text = mark ++ body; tokens = Comment mid.comment.data mid.at ∷ []; errors = mid.raised.errors.items } in
      let data_is : mid.comment.data ≡ begun.comment.data = ap (λ x. x.data) same in
      held_ended _ _ (g.ends.keeps.kind_is ∙ keep.kind_is ∙ b.keeps.kind_is ∙ h.kind_is ∙ here_is) (no_script _ refl)
      (stands_at_end h end span declared.0 (in_data table end h.here [] span here_is
      (subst (λ (x : List ParseError). IsDataSpan table end [] (record { text = mark ++ body; tokens = Comment mid.comment.data mid.at ∷ []; errors = x }))
      (sym raised)
      (subst (λ (a : ℕ). IsDataSpan table end [] (record { text = mark ++ body; tokens = Comment mid.comment.data a ∷ []; errors = e ∷ k.reported }))
      (sym (keep.at_is ∙ b.keeps.at_is)) (subst (λ (x : List Placed). IsDataSpan table end [] (record
      { text = mark ++ body; tokens = Comment mid.comment.data t.at ∷ []; errors = error IncorrectlyOpenedComment (place end x) ∷ k.reported }))
      (append-nil body) (subst (λ (x : List ℕ). IsDataSpan table end []
      (record { text = mark ++ body; tokens = Comment x t.at ∷ []; errors = error IncorrectlyOpenedComment (place end (body ++ [])) ∷ k.reported }))
      (sym data_is) (bogus_declaration mark body begun.comment.data k.reported refl
      (subst (λ (x : List Placed). is_declaration x ≡ false) (sym (append-nil body)) declared.2.none) k.is_span refl)))))) refl)
      (span_given gives gives_token names mid.raised.errors.items g.token (Comment mid.comment.data mid.at) old s answer (g.means names) g.handed)
