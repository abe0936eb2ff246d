-- What a clause reads of a `Page`.
use Rattle.html_c.specs.Fitted.{fitted_text}
use Rattle.html_c.specs.Page.{Parts}
use Rattle.html_c.specs.Trees.{parsed_parts}
use Rattle.html_c.specs.declared.page.Page.{Page}

abbrev pub page_parts : Page → Parts
page_parts page = parsed_parts page.tree.parsed page.wants.errors (fitted_text page.text)
