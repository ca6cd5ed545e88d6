-- The request methods, the protocols and the endings of static files that are known: methods of HTTP and WebDAV,
-- versions of HTTP as servers log them, and this program's own choice of endings. All are compared byte for byte.
use Rattle.std.specs.Prelude.{ℕ, List, [], ◌∷◌, codes}
use Rattle.std.specs.List.{Contains}

abbrev pub methods : List (List ℕ)
methods = codes "GET" ∷ codes "HEAD" ∷ codes "POST" ∷ codes "PUT" ∷ codes "DELETE" ∷ codes "CONNECT"
    ∷ codes "OPTIONS" ∷ codes "TRACE" ∷ codes "PATCH" ∷ codes "PROPFIND" ∷ codes "PROPPATCH" ∷ codes "MKCOL"
    ∷ codes "COPY" ∷ codes "MOVE" ∷ codes "LOCK" ∷ codes "UNLOCK" ∷ codes "REPORT" ∷ codes "SEARCH"
    ∷ codes "ACL" ∷ codes "MKCALENDAR" ∷ []

abbrev pub protocols : List (List ℕ)
protocols = codes "HTTP/1.0" ∷ codes "HTTP/1.1" ∷ codes "HTTP/2" ∷ codes "HTTP/2.0" ∷ codes "HTTP/3"
    ∷ codes "HTTP/3.0" ∷ []

abbrev pub extensions : List (List ℕ)
extensions = codes ".css" ∷ codes ".js" ∷ codes ".mjs" ∷ codes ".map" ∷ codes ".jpg" ∷ codes ".jpeg"
    ∷ codes ".png" ∷ codes ".gif" ∷ codes ".ico" ∷ codes ".svg" ∷ codes ".webp" ∷ codes ".bmp" ∷ codes ".tif"
    ∷ codes ".tiff" ∷ codes ".avif" ∷ codes ".pdf" ∷ codes ".csv" ∷ codes ".txt" ∷ codes ".doc"
    ∷ codes ".docx" ∷ codes ".xls" ∷ codes ".xlsx" ∷ codes ".ppt" ∷ codes ".pptx" ∷ codes ".woff"
    ∷ codes ".woff2" ∷ codes ".ttf" ∷ codes ".otf" ∷ codes ".eot" ∷ codes ".mp3" ∷ codes ".mp4"
    ∷ codes ".ogg" ∷ codes ".webm" ∷ codes ".mpeg" ∷ codes ".mpg" ∷ codes ".swf" ∷ codes ".zip" ∷ codes ".gz"
    ∷ codes ".tgz" ∷ codes ".tar" ∷ codes ".rar" ∷ codes ".xz" ∷ codes ".exe" ∷ codes ".dmg" ∷ codes ".iso"
    ∷ []

abbrev pub IsMethod : List ℕ → Type 0
IsMethod text = Contains methods text

abbrev pub IsProtocol : List ℕ → Type 0
IsProtocol text = Contains protocols text

abbrev pub IsExtension : List ℕ → Type 0
IsExtension text = Contains extensions text
