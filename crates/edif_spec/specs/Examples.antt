-- Small files as trees with places. A part of a file is named by the file in which it stands first, and its place.
use Rattle.std.specs.Prelude.{ℕ, zero, suc, ◌+◌, ◌*◌, ◌/◌, ◌%◌, pos, codes, List, [], ◌∷◌}
use Rattle.edif_spelling_spec.specs.Tree.{Placed, Form', Word', Integer', String', End, More, trees}

-- `(edifVersion 2 0 1)`, at byte 8
abbrev pub bad_version_8 : Placed
bad_version_8 = Form' 8 (More (Word' 9 (codes "edifVersion")) (More (Integer' 21 (pos 2)) (More (Integer' 23 (pos 0)) (More (Integer' 25 (pos 1)) End))))

-- `(edifLevel 0)`, at byte 28
abbrev pub bad_version_28 : Placed
bad_version_28 = Form' 28 (More (Word' 29 (codes "edifLevel")) (More (Integer' 39 (pos 0)) End))

-- `(keywordLevel 0)`, at byte 54
abbrev pub bad_version_54 : Placed
bad_version_54 = Form' 54 (More (Word' 55 (codes "keywordLevel")) (More (Integer' 68 (pos 0)) End))

-- `(keywordMap (keywordLevel 0))`, at byte 42
abbrev pub bad_version_42 : Placed
bad_version_42 = Form' 42 (More (Word' 43 (codes "keywordMap")) (More bad_version_54 End))

-- the file `(edif e (edifVersion 2 0 1) (edifLevel 0) (keywordMap (keywordLevel 0)))`
abbrev pub bad_version : Placed
bad_version = Form' 0 (More (Word' 1 (codes "edif")) (More (Word' 6 (codes "e")) (More bad_version_8 (More bad_version_28 (More bad_version_42 End)))))

-- `(edifVersion 2 0 0)`, at byte 8
abbrev pub bad_level_8 : Placed
bad_level_8 = Form' 8 (More (Word' 9 (codes "edifVersion")) (More (Integer' 21 (pos 2)) (More (Integer' 23 (pos 0)) (More (Integer' 25 (pos 0)) End))))

-- `(edifLevel 1)`, at byte 28
abbrev pub bad_level_28 : Placed
bad_level_28 = Form' 28 (More (Word' 29 (codes "edifLevel")) (More (Integer' 39 (pos 1)) End))

-- the file `(edif e (edifVersion 2 0 0) (edifLevel 1) (keywordMap (keywordLevel 0)))`
abbrev pub bad_level : Placed
bad_level = Form' 0 (More (Word' 1 (codes "edif")) (More (Word' 6 (codes "e")) (More bad_level_8 (More bad_level_28 (More bad_version_42 End)))))

-- `(edifLevel 0)`, at byte 83
abbrev pub two_libraries_83 : Placed
two_libraries_83 = Form' 83 (More (Word' 84 (codes "edifLevel")) (More (Integer' 94 (pos 0)) End))

-- `(technology)`, at byte 97
abbrev pub two_libraries_97 : Placed
two_libraries_97 = Form' 97 (More (Word' 98 (codes "technology")) End)

-- `(library w (edifLevel 0) (technology))`, at byte 72
abbrev pub two_libraries_72 : Placed
two_libraries_72 = Form' 72 (More (Word' 73 (codes "library")) (More (Word' 81 (codes "w")) (More two_libraries_83 (More two_libraries_97 End))))

-- `(edifLevel 0)`, at byte 122
abbrev pub two_libraries_122 : Placed
two_libraries_122 = Form' 122 (More (Word' 123 (codes "edifLevel")) (More (Integer' 133 (pos 0)) End))

-- `(technology)`, at byte 136
abbrev pub two_libraries_136 : Placed
two_libraries_136 = Form' 136 (More (Word' 137 (codes "technology")) End)

-- `(library w (edifLevel 0) (technology))`, at byte 111
abbrev pub two_libraries_111 : Placed
two_libraries_111 = Form' 111 (More (Word' 112 (codes "library")) (More (Word' 120 (codes "w")) (More two_libraries_122 (More two_libraries_136 End))))

-- the file `(edif e (edifVersion 2 0 0) (edifLevel 0) (keywordMap (keywordLevel 0)) (library w (edifLevel 0) (technology)) (library w (edifLevel 0) (technology)))`
abbrev pub two_libraries : Placed
two_libraries = Form' 0 (More (Word' 1 (codes "edif")) (More (Word' 6 (codes "e")) (More bad_level_8 (More bad_version_28 (More bad_version_42 (More two_libraries_72 (More two_libraries_111 End)))))))

-- `(cellType GENERIC)`, at byte 118
abbrev pub other_view_type_118 : Placed
other_view_type_118 = Form' 118 (More (Word' 119 (codes "cellType")) (More (Word' 128 (codes "GENERIC")) End))

-- `(viewType BEHAVIOR)`, at byte 145
abbrev pub other_view_type_145 : Placed
other_view_type_145 = Form' 145 (More (Word' 146 (codes "viewType")) (More (Word' 155 (codes "BEHAVIOR")) End))

-- `(interface)`, at byte 165
abbrev pub other_view_type_165 : Placed
other_view_type_165 = Form' 165 (More (Word' 166 (codes "interface")) End)

-- `(view v (viewType BEHAVIOR) (interface))`, at byte 137
abbrev pub other_view_type_137 : Placed
other_view_type_137 = Form' 137 (More (Word' 138 (codes "view")) (More (Word' 143 (codes "v")) (More other_view_type_145 (More other_view_type_165 End))))

-- `(cell c (cellType GENERIC) (view v (viewType BEHAVIOR) (interface)))`, at byte 110
abbrev pub other_view_type_110 : Placed
other_view_type_110 = Form' 110 (More (Word' 111 (codes "cell")) (More (Word' 116 (codes "c")) (More other_view_type_118 (More other_view_type_137 End))))

-- the `library` `w`, with its `edifLevel`, `technology`, `cell`, at byte 72
abbrev pub other_view_type_72 : Placed
other_view_type_72 = Form' 72 (More (Word' 73 (codes "library")) (More (Word' 81 (codes "w")) (More two_libraries_83 (More two_libraries_97 (More other_view_type_110 End)))))

-- the file `(edif e (edifVersion 2 0 0) (edifLevel 0) (keywordMap (keywordLevel 0)) (library w (edifLevel 0) (technology) (cell c (cellType GENERIC) (view v (viewType BEHAVIOR) (interface)))))`
abbrev pub other_view_type : Placed
other_view_type = Form' 0 (More (Word' 1 (codes "edif")) (More (Word' 6 (codes "e")) (More bad_level_8 (More bad_version_28 (More bad_version_42 (More other_view_type_72 End))))))

-- `(viewType NETLIST)`, at byte 145
abbrev pub two_views_145 : Placed
two_views_145 = Form' 145 (More (Word' 146 (codes "viewType")) (More (Word' 155 (codes "NETLIST")) End))

-- `(interface)`, at byte 164
abbrev pub two_views_164 : Placed
two_views_164 = Form' 164 (More (Word' 165 (codes "interface")) End)

-- `(view v (viewType NETLIST) (interface))`, at byte 137
abbrev pub two_views_137 : Placed
two_views_137 = Form' 137 (More (Word' 138 (codes "view")) (More (Word' 143 (codes "v")) (More two_views_145 (More two_views_164 End))))

-- `(viewType NETLIST)`, at byte 185
abbrev pub two_views_185 : Placed
two_views_185 = Form' 185 (More (Word' 186 (codes "viewType")) (More (Word' 195 (codes "NETLIST")) End))

-- `(interface)`, at byte 204
abbrev pub two_views_204 : Placed
two_views_204 = Form' 204 (More (Word' 205 (codes "interface")) End)

-- `(view v (viewType NETLIST) (interface))`, at byte 177
abbrev pub two_views_177 : Placed
two_views_177 = Form' 177 (More (Word' 178 (codes "view")) (More (Word' 183 (codes "v")) (More two_views_185 (More two_views_204 End))))

-- the `cell` `c`, with its `cellType`, `view`, `view`, at byte 110
abbrev pub two_views_110 : Placed
two_views_110 = Form' 110 (More (Word' 111 (codes "cell")) (More (Word' 116 (codes "c")) (More other_view_type_118 (More two_views_137 (More two_views_177 End)))))

-- the `library` `w`, with its `edifLevel`, `technology`, `cell`, at byte 72
abbrev pub two_views_72 : Placed
two_views_72 = Form' 72 (More (Word' 73 (codes "library")) (More (Word' 81 (codes "w")) (More two_libraries_83 (More two_libraries_97 (More two_views_110 End)))))

-- the file `(edif e (edifVersion 2 0 0) (edifLevel 0) (keywordMap (keywordLevel 0)) (library w (edifLevel 0) (technology) (cell c (cellType GENERIC) (view v (viewType NETLIST) (interface)) (view v (viewType NETLIST) (interface)))))`
abbrev pub two_views : Placed
two_views = Form' 0 (More (Word' 1 (codes "edif")) (More (Word' 6 (codes "e")) (More bad_level_8 (More bad_version_28 (More bad_version_42 (More two_views_72 End))))))

-- `(portBundle b)`, at byte 175
abbrev pub port_bundle_175 : Placed
port_bundle_175 = Form' 175 (More (Word' 176 (codes "portBundle")) (More (Word' 187 (codes "b")) End))

-- `(interface (portBundle b))`, at byte 164
abbrev pub port_bundle_164 : Placed
port_bundle_164 = Form' 164 (More (Word' 165 (codes "interface")) (More port_bundle_175 End))

-- `(view v (viewType NETLIST) (interface (portBundle b)))`, at byte 137
abbrev pub port_bundle_137 : Placed
port_bundle_137 = Form' 137 (More (Word' 138 (codes "view")) (More (Word' 143 (codes "v")) (More two_views_145 (More port_bundle_164 End))))

-- the `cell` `c`, with its `cellType`, `view`, at byte 110
abbrev pub port_bundle_110 : Placed
port_bundle_110 = Form' 110 (More (Word' 111 (codes "cell")) (More (Word' 116 (codes "c")) (More other_view_type_118 (More port_bundle_137 End))))

-- the `library` `w`, with its `edifLevel`, `technology`, `cell`, at byte 72
abbrev pub port_bundle_72 : Placed
port_bundle_72 = Form' 72 (More (Word' 73 (codes "library")) (More (Word' 81 (codes "w")) (More two_libraries_83 (More two_libraries_97 (More port_bundle_110 End)))))

-- the file `(edif e (edifVersion 2 0 0) (edifLevel 0) (keywordMap (keywordLevel 0)) (library w (edifLevel 0) (technology) (cell c (cellType GENERIC) (view v (viewType NETLIST) (interface (portBundle b))))))`
abbrev pub port_bundle : Placed
port_bundle = Form' 0 (More (Word' 1 (codes "edif")) (More (Word' 6 (codes "e")) (More bad_level_8 (More bad_version_28 (More bad_version_42 (More port_bundle_72 End))))))

-- `(e 1 2147483648)`, at byte 196
abbrev pub large_exponent_196 : Placed
large_exponent_196 = Form' 196 (More (Word' 197 (codes "e")) (More (Integer' 199 (pos 1)) (More (Integer' 201 (pos 2147483648)) End)))

-- `(number (e 1 2147483648))`, at byte 188
abbrev pub large_exponent_188 : Placed
large_exponent_188 = Form' 188 (More (Word' 189 (codes "number")) (More large_exponent_196 End))

-- `(property K (number (e 1 2147483648)))`, at byte 176
abbrev pub large_exponent_176 : Placed
large_exponent_176 = Form' 176 (More (Word' 177 (codes "property")) (More (Word' 186 (codes "K")) (More large_exponent_188 End)))

-- the `view` `v`, with its `viewType`, `interface`, `property`, at byte 137
abbrev pub large_exponent_137 : Placed
large_exponent_137 = Form' 137 (More (Word' 138 (codes "view")) (More (Word' 143 (codes "v")) (More two_views_145 (More two_views_164 (More large_exponent_176 End)))))

-- the `cell` `c`, with its `cellType`, `view`, at byte 110
abbrev pub large_exponent_110 : Placed
large_exponent_110 = Form' 110 (More (Word' 111 (codes "cell")) (More (Word' 116 (codes "c")) (More other_view_type_118 (More large_exponent_137 End))))

-- the `library` `w`, with its `edifLevel`, `technology`, `cell`, at byte 72
abbrev pub large_exponent_72 : Placed
large_exponent_72 = Form' 72 (More (Word' 73 (codes "library")) (More (Word' 81 (codes "w")) (More two_libraries_83 (More two_libraries_97 (More large_exponent_110 End)))))

-- the file `(edif e (edifVersion 2 0 0) (edifLevel 0) (keywordMap (keywordLevel 0)) (library w (edifLevel 0) (technology) (cell c (cellType GENERIC) (view v (viewType NETLIST) (interface) (property K (number (e 1 2147483648)))))))`
abbrev pub large_exponent : Placed
large_exponent = Form' 0 (More (Word' 1 (codes "edif")) (More (Word' 6 (codes "e")) (More bad_level_8 (More bad_version_28 (More bad_version_42 (More large_exponent_72 End))))))

-- `(port p)`, at byte 175
abbrev pub joined_twice_175 : Placed
joined_twice_175 = Form' 175 (More (Word' 176 (codes "port")) (More (Word' 181 (codes "p")) End))

-- `(interface (port p))`, at byte 164
abbrev pub joined_twice_164 : Placed
joined_twice_164 = Form' 164 (More (Word' 165 (codes "interface")) (More joined_twice_175 End))

-- `(portRef p)`, at byte 210
abbrev pub joined_twice_210 : Placed
joined_twice_210 = Form' 210 (More (Word' 211 (codes "portRef")) (More (Word' 219 (codes "p")) End))

-- `(portRef p)`, at byte 222
abbrev pub joined_twice_222 : Placed
joined_twice_222 = Form' 222 (More (Word' 223 (codes "portRef")) (More (Word' 231 (codes "p")) End))

-- `(joined (portRef p) (portRef p))`, at byte 202
abbrev pub joined_twice_202 : Placed
joined_twice_202 = Form' 202 (More (Word' 203 (codes "joined")) (More joined_twice_210 (More joined_twice_222 End)))

-- `(net n (joined (portRef p) (portRef p)))`, at byte 195
abbrev pub joined_twice_195 : Placed
joined_twice_195 = Form' 195 (More (Word' 196 (codes "net")) (More (Word' 200 (codes "n")) (More joined_twice_202 End)))

-- `(contents (net n (joined (portRef p) (portRef p))))`, at byte 185
abbrev pub joined_twice_185 : Placed
joined_twice_185 = Form' 185 (More (Word' 186 (codes "contents")) (More joined_twice_195 End))

-- the `view` `v`, with its `viewType`, `interface`, `contents`, at byte 137
abbrev pub joined_twice_137 : Placed
joined_twice_137 = Form' 137 (More (Word' 138 (codes "view")) (More (Word' 143 (codes "v")) (More two_views_145 (More joined_twice_164 (More joined_twice_185 End)))))

-- the `cell` `c`, with its `cellType`, `view`, at byte 110
abbrev pub joined_twice_110 : Placed
joined_twice_110 = Form' 110 (More (Word' 111 (codes "cell")) (More (Word' 116 (codes "c")) (More other_view_type_118 (More joined_twice_137 End))))

-- the `library` `w`, with its `edifLevel`, `technology`, `cell`, at byte 72
abbrev pub joined_twice_72 : Placed
joined_twice_72 = Form' 72 (More (Word' 73 (codes "library")) (More (Word' 81 (codes "w")) (More two_libraries_83 (More two_libraries_97 (More joined_twice_110 End)))))

-- the file `(edif e (edifVersion 2 0 0) (edifLevel 0) (keywordMap (keywordLevel 0)) (library w (edifLevel 0) (technology) (cell c (cellType GENERIC) (view v (viewType NETLIST) (interface (port p)) (contents (net n (joined (portRef p) (portRef p))))))))`
abbrev pub joined_twice : Placed
joined_twice = Form' 0 (More (Word' 1 (codes "edif")) (More (Word' 6 (codes "e")) (More bad_level_8 (More bad_version_28 (More bad_version_42 (More joined_twice_72 End))))))

-- `(cellRef z)`, at byte 209
abbrev pub later_cell_209 : Placed
later_cell_209 = Form' 209 (More (Word' 210 (codes "cellRef")) (More (Word' 218 (codes "z")) End))

-- `(viewRef v (cellRef z))`, at byte 198
abbrev pub later_cell_198 : Placed
later_cell_198 = Form' 198 (More (Word' 199 (codes "viewRef")) (More (Word' 207 (codes "v")) (More later_cell_209 End)))

-- `(instance i (viewRef v (cellRef z)))`, at byte 186
abbrev pub later_cell_186 : Placed
later_cell_186 = Form' 186 (More (Word' 187 (codes "instance")) (More (Word' 196 (codes "i")) (More later_cell_198 End)))

-- `(contents (instance i (viewRef v (cellRef z))))`, at byte 176
abbrev pub later_cell_176 : Placed
later_cell_176 = Form' 176 (More (Word' 177 (codes "contents")) (More later_cell_186 End))

-- the `view` `v`, with its `viewType`, `interface`, `contents`, at byte 137
abbrev pub later_cell_137 : Placed
later_cell_137 = Form' 137 (More (Word' 138 (codes "view")) (More (Word' 143 (codes "v")) (More two_views_145 (More two_views_164 (More later_cell_176 End)))))

-- the `cell` `t`, with its `cellType`, `view`, at byte 110
abbrev pub later_cell_110 : Placed
later_cell_110 = Form' 110 (More (Word' 111 (codes "cell")) (More (Word' 116 (codes "t")) (More other_view_type_118 (More later_cell_137 End))))

-- `(cellType GENERIC)`, at byte 234
abbrev pub later_cell_234 : Placed
later_cell_234 = Form' 234 (More (Word' 235 (codes "cellType")) (More (Word' 244 (codes "GENERIC")) End))

-- `(viewType NETLIST)`, at byte 261
abbrev pub later_cell_261 : Placed
later_cell_261 = Form' 261 (More (Word' 262 (codes "viewType")) (More (Word' 271 (codes "NETLIST")) End))

-- `(interface)`, at byte 280
abbrev pub later_cell_280 : Placed
later_cell_280 = Form' 280 (More (Word' 281 (codes "interface")) End)

-- `(view v (viewType NETLIST) (interface))`, at byte 253
abbrev pub later_cell_253 : Placed
later_cell_253 = Form' 253 (More (Word' 254 (codes "view")) (More (Word' 259 (codes "v")) (More later_cell_261 (More later_cell_280 End))))

-- `(cell z (cellType GENERIC) (view v (viewType NETLIST) (interface)))`, at byte 226
abbrev pub later_cell_226 : Placed
later_cell_226 = Form' 226 (More (Word' 227 (codes "cell")) (More (Word' 232 (codes "z")) (More later_cell_234 (More later_cell_253 End))))

-- the `library` `w`, with its `edifLevel`, `technology`, `cell`, `cell`, at byte 72
abbrev pub later_cell_72 : Placed
later_cell_72 = Form' 72 (More (Word' 73 (codes "library")) (More (Word' 81 (codes "w")) (More two_libraries_83 (More two_libraries_97 (More later_cell_110 (More later_cell_226 End))))))

-- the file `(edif e (edifVersion 2 0 0) (edifLevel 0) (keywordMap (keywordLevel 0)) (library w (edifLevel 0) (technology) (cell t (cellType GENERIC) (view v (viewType NETLIST) (interface) (contents (instance i (viewRef v (cellRef z)))))) (cell z (cellType GENERIC) (view v (viewType NETLIST) (interface)))))`
abbrev pub later_cell : Placed
later_cell = Form' 0 (More (Word' 1 (codes "edif")) (More (Word' 6 (codes "e")) (More bad_level_8 (More bad_version_28 (More bad_version_42 (More later_cell_72 End))))))

-- `(rename d "d[3:0]")`, at byte 188
abbrev pub whole_array_188 : Placed
whole_array_188 = Form' 188 (More (Word' 189 (codes "rename")) (More (Word' 196 (codes "d")) (More (String' 198 (codes "d[3:0]")) End)))

-- `(array (rename d "d[3:0]") 4)`, at byte 181
abbrev pub whole_array_181 : Placed
whole_array_181 = Form' 181 (More (Word' 182 (codes "array")) (More whole_array_188 (More (Integer' 208 (pos 4)) End)))

-- `(direction OUTPUT)`, at byte 211
abbrev pub whole_array_211 : Placed
whole_array_211 = Form' 211 (More (Word' 212 (codes "direction")) (More (Word' 222 (codes "OUTPUT")) End))

-- `(port (array (rename d "d[3:0]") 4) (direction OUTPUT))`, at byte 175
abbrev pub whole_array_175 : Placed
whole_array_175 = Form' 175 (More (Word' 176 (codes "port")) (More whole_array_181 (More whole_array_211 End)))

-- `(interface (port (array (rename d "d[3:0]") 4) (direction OUTPUT)))`, at byte 164
abbrev pub whole_array_164 : Placed
whole_array_164 = Form' 164 (More (Word' 165 (codes "interface")) (More whole_array_175 End))

-- `(portRef d)`, at byte 257
abbrev pub whole_array_257 : Placed
whole_array_257 = Form' 257 (More (Word' 258 (codes "portRef")) (More (Word' 266 (codes "d")) End))

-- `(joined (portRef d))`, at byte 249
abbrev pub whole_array_249 : Placed
whole_array_249 = Form' 249 (More (Word' 250 (codes "joined")) (More whole_array_257 End))

-- `(net n (joined (portRef d)))`, at byte 242
abbrev pub whole_array_242 : Placed
whole_array_242 = Form' 242 (More (Word' 243 (codes "net")) (More (Word' 247 (codes "n")) (More whole_array_249 End)))

-- `(contents (net n (joined (portRef d))))`, at byte 232
abbrev pub whole_array_232 : Placed
whole_array_232 = Form' 232 (More (Word' 233 (codes "contents")) (More whole_array_242 End))

-- the `view` `v`, with its `viewType`, `interface`, `contents`, at byte 137
abbrev pub whole_array_137 : Placed
whole_array_137 = Form' 137 (More (Word' 138 (codes "view")) (More (Word' 143 (codes "v")) (More two_views_145 (More whole_array_164 (More whole_array_232 End)))))

-- the `cell` `c`, with its `cellType`, `view`, at byte 110
abbrev pub whole_array_110 : Placed
whole_array_110 = Form' 110 (More (Word' 111 (codes "cell")) (More (Word' 116 (codes "c")) (More other_view_type_118 (More whole_array_137 End))))

-- the `library` `w`, with its `edifLevel`, `technology`, `cell`, at byte 72
abbrev pub whole_array_72 : Placed
whole_array_72 = Form' 72 (More (Word' 73 (codes "library")) (More (Word' 81 (codes "w")) (More two_libraries_83 (More two_libraries_97 (More whole_array_110 End)))))

-- the file `(edif e (edifVersion 2 0 0) (edifLevel 0) (keywordMap (keywordLevel 0)) (library w (edifLevel 0) (technology) (cell c (cellType GENERIC) (view v (viewType NETLIST) (interface (port (array (rename d "d[3:0]") 4) (direction OUTPUT))) (contents (net n (joined (portRef d))))))))`
abbrev pub whole_array : Placed
whole_array = Form' 0 (More (Word' 1 (codes "edif")) (More (Word' 6 (codes "e")) (More bad_level_8 (More bad_version_28 (More bad_version_42 (More whole_array_72 End))))))

-- `(array n 3)`, at byte 247
abbrev pub bad_width_247 : Placed
bad_width_247 = Form' 247 (More (Word' 248 (codes "array")) (More (Word' 254 (codes "n")) (More (Integer' 256 (pos 3)) End)))

-- `(portRef d)`, at byte 267
abbrev pub bad_width_267 : Placed
bad_width_267 = Form' 267 (More (Word' 268 (codes "portRef")) (More (Word' 276 (codes "d")) End))

-- `(joined (portRef d))`, at byte 259
abbrev pub bad_width_259 : Placed
bad_width_259 = Form' 259 (More (Word' 260 (codes "joined")) (More bad_width_267 End))

-- `(net (array n 3) (joined (portRef d)))`, at byte 242
abbrev pub bad_width_242 : Placed
bad_width_242 = Form' 242 (More (Word' 243 (codes "net")) (More bad_width_247 (More bad_width_259 End)))

-- `(contents (net (array n 3) (joined (portRef d))))`, at byte 232
abbrev pub bad_width_232 : Placed
bad_width_232 = Form' 232 (More (Word' 233 (codes "contents")) (More bad_width_242 End))

-- the `view` `v`, with its `viewType`, `interface`, `contents`, at byte 137
abbrev pub bad_width_137 : Placed
bad_width_137 = Form' 137 (More (Word' 138 (codes "view")) (More (Word' 143 (codes "v")) (More two_views_145 (More whole_array_164 (More bad_width_232 End)))))

-- the `cell` `c`, with its `cellType`, `view`, at byte 110
abbrev pub bad_width_110 : Placed
bad_width_110 = Form' 110 (More (Word' 111 (codes "cell")) (More (Word' 116 (codes "c")) (More other_view_type_118 (More bad_width_137 End))))

-- the `library` `w`, with its `edifLevel`, `technology`, `cell`, at byte 72
abbrev pub bad_width_72 : Placed
bad_width_72 = Form' 72 (More (Word' 73 (codes "library")) (More (Word' 81 (codes "w")) (More two_libraries_83 (More two_libraries_97 (More bad_width_110 End)))))

-- the file `(edif e (edifVersion 2 0 0) (edifLevel 0) (keywordMap (keywordLevel 0)) (library w (edifLevel 0) (technology) (cell c (cellType GENERIC) (view v (viewType NETLIST) (interface (port (array (rename d "d[3:0]") 4) (direction OUTPUT))) (contents (net (array n 3) (joined (portRef d))))))))`
abbrev pub bad_width : Placed
bad_width = Form' 0 (More (Word' 1 (codes "edif")) (More (Word' 6 (codes "e")) (More bad_level_8 (More bad_version_28 (More bad_version_42 (More bad_width_72 End))))))

-- `(array n 2)`, at byte 191
abbrev pub member_again_191 : Placed
member_again_191 = Form' 191 (More (Word' 192 (codes "array")) (More (Word' 198 (codes "n")) (More (Integer' 200 (pos 2)) End)))

-- `(joined)`, at byte 203
abbrev pub member_again_203 : Placed
member_again_203 = Form' 203 (More (Word' 204 (codes "joined")) End)

-- `(net (array n 2) (joined))`, at byte 186
abbrev pub member_again_186 : Placed
member_again_186 = Form' 186 (More (Word' 187 (codes "net")) (More member_again_191 (More member_again_203 End)))

-- `(joined)`, at byte 223
abbrev pub member_again_223 : Placed
member_again_223 = Form' 223 (More (Word' 224 (codes "joined")) End)

-- `(net n_1_ (joined))`, at byte 213
abbrev pub member_again_213 : Placed
member_again_213 = Form' 213 (More (Word' 214 (codes "net")) (More (Word' 218 (codes "n_1_")) (More member_again_223 End)))

-- `(contents (net (array n 2) (joined)) (net n_1_ (joined)))`, at byte 176
abbrev pub member_again_176 : Placed
member_again_176 = Form' 176 (More (Word' 177 (codes "contents")) (More member_again_186 (More member_again_213 End)))

-- the `view` `v`, with its `viewType`, `interface`, `contents`, at byte 137
abbrev pub member_again_137 : Placed
member_again_137 = Form' 137 (More (Word' 138 (codes "view")) (More (Word' 143 (codes "v")) (More two_views_145 (More two_views_164 (More member_again_176 End)))))

-- the `cell` `c`, with its `cellType`, `view`, at byte 110
abbrev pub member_again_110 : Placed
member_again_110 = Form' 110 (More (Word' 111 (codes "cell")) (More (Word' 116 (codes "c")) (More other_view_type_118 (More member_again_137 End))))

-- the `library` `w`, with its `edifLevel`, `technology`, `cell`, at byte 72
abbrev pub member_again_72 : Placed
member_again_72 = Form' 72 (More (Word' 73 (codes "library")) (More (Word' 81 (codes "w")) (More two_libraries_83 (More two_libraries_97 (More member_again_110 End)))))

-- the file `(edif e (edifVersion 2 0 0) (edifLevel 0) (keywordMap (keywordLevel 0)) (library w (edifLevel 0) (technology) (cell c (cellType GENERIC) (view v (viewType NETLIST) (interface) (contents (net (array n 2) (joined)) (net n_1_ (joined)))))))`
abbrev pub member_again : Placed
member_again = Form' 0 (More (Word' 1 (codes "edif")) (More (Word' 6 (codes "e")) (More bad_level_8 (More bad_version_28 (More bad_version_42 (More member_again_72 End))))))

-- `(port Ab)`, at byte 175
abbrev pub two_alike_175 : Placed
two_alike_175 = Form' 175 (More (Word' 176 (codes "port")) (More (Word' 181 (codes "Ab")) End))

-- `(port aB)`, at byte 185
abbrev pub two_alike_185 : Placed
two_alike_185 = Form' 185 (More (Word' 186 (codes "port")) (More (Word' 191 (codes "aB")) End))

-- `(interface (port Ab) (port aB))`, at byte 164
abbrev pub two_alike_164 : Placed
two_alike_164 = Form' 164 (More (Word' 165 (codes "interface")) (More two_alike_175 (More two_alike_185 End)))

-- `(portRef AB)`, at byte 221
abbrev pub two_alike_221 : Placed
two_alike_221 = Form' 221 (More (Word' 222 (codes "portRef")) (More (Word' 230 (codes "AB")) End))

-- `(joined (portRef AB))`, at byte 213
abbrev pub two_alike_213 : Placed
two_alike_213 = Form' 213 (More (Word' 214 (codes "joined")) (More two_alike_221 End))

-- `(net n (joined (portRef AB)))`, at byte 206
abbrev pub two_alike_206 : Placed
two_alike_206 = Form' 206 (More (Word' 207 (codes "net")) (More (Word' 211 (codes "n")) (More two_alike_213 End)))

-- `(contents (net n (joined (portRef AB))))`, at byte 196
abbrev pub two_alike_196 : Placed
two_alike_196 = Form' 196 (More (Word' 197 (codes "contents")) (More two_alike_206 End))

-- the `view` `v`, with its `viewType`, `interface`, `contents`, at byte 137
abbrev pub two_alike_137 : Placed
two_alike_137 = Form' 137 (More (Word' 138 (codes "view")) (More (Word' 143 (codes "v")) (More two_views_145 (More two_alike_164 (More two_alike_196 End)))))

-- the `cell` `c`, with its `cellType`, `view`, at byte 110
abbrev pub two_alike_110 : Placed
two_alike_110 = Form' 110 (More (Word' 111 (codes "cell")) (More (Word' 116 (codes "c")) (More other_view_type_118 (More two_alike_137 End))))

-- the `library` `w`, with its `edifLevel`, `technology`, `cell`, at byte 72
abbrev pub two_alike_72 : Placed
two_alike_72 = Form' 72 (More (Word' 73 (codes "library")) (More (Word' 81 (codes "w")) (More two_libraries_83 (More two_libraries_97 (More two_alike_110 End)))))

-- the file `(edif e (edifVersion 2 0 0) (edifLevel 0) (keywordMap (keywordLevel 0)) (library w (edifLevel 0) (technology) (cell c (cellType GENERIC) (view v (viewType NETLIST) (interface (port Ab) (port aB)) (contents (net n (joined (portRef AB))))))))`
abbrev pub two_alike : Placed
two_alike = Form' 0 (More (Word' 1 (codes "edif")) (More (Word' 6 (codes "e")) (More bad_level_8 (More bad_version_28 (More bad_version_42 (More two_alike_72 End))))))

-- `(libraryRef w)`, at byte 93
abbrev pub two_designs_93 : Placed
two_designs_93 = Form' 93 (More (Word' 94 (codes "libraryRef")) (More (Word' 105 (codes "w")) End))

-- `(cellRef t (libraryRef w))`, at byte 82
abbrev pub two_designs_82 : Placed
two_designs_82 = Form' 82 (More (Word' 83 (codes "cellRef")) (More (Word' 91 (codes "t")) (More two_designs_93 End)))

-- `(design a (cellRef t (libraryRef w)))`, at byte 72
abbrev pub two_designs_72 : Placed
two_designs_72 = Form' 72 (More (Word' 73 (codes "design")) (More (Word' 80 (codes "a")) (More two_designs_82 End)))

-- `(libraryRef w)`, at byte 131
abbrev pub two_designs_131 : Placed
two_designs_131 = Form' 131 (More (Word' 132 (codes "libraryRef")) (More (Word' 143 (codes "w")) End))

-- `(cellRef t (libraryRef w))`, at byte 120
abbrev pub two_designs_120 : Placed
two_designs_120 = Form' 120 (More (Word' 121 (codes "cellRef")) (More (Word' 129 (codes "t")) (More two_designs_131 End)))

-- `(design b (cellRef t (libraryRef w)))`, at byte 110
abbrev pub two_designs_110 : Placed
two_designs_110 = Form' 110 (More (Word' 111 (codes "design")) (More (Word' 118 (codes "b")) (More two_designs_120 End)))

-- the file `(edif e (edifVersion 2 0 0) (edifLevel 0) (keywordMap (keywordLevel 0)) (design a (cellRef t (libraryRef w))) (design b (cellRef t (libraryRef w))))`
abbrev pub two_designs : Placed
two_designs = Form' 0 (More (Word' 1 (codes "edif")) (More (Word' 6 (codes "e")) (More bad_level_8 (More bad_version_28 (More bad_version_42 (More two_designs_72 (More two_designs_110 End)))))))

-- `(cell t (cellType GENERIC) (view v (viewType NETLIST) (interface)))`, at byte 110
abbrev pub empty_path_110 : Placed
empty_path_110 = Form' 110 (More (Word' 111 (codes "cell")) (More (Word' 116 (codes "t")) (More other_view_type_118 (More two_views_137 End))))

-- the `library` `w`, with its `edifLevel`, `technology`, `cell`, at byte 72
abbrev pub empty_path_72 : Placed
empty_path_72 = Form' 72 (More (Word' 73 (codes "library")) (More (Word' 81 (codes "w")) (More two_libraries_83 (More two_libraries_97 (More empty_path_110 End)))))

-- `(libraryRef w)`, at byte 200
abbrev pub empty_path_200 : Placed
empty_path_200 = Form' 200 (More (Word' 201 (codes "libraryRef")) (More (Word' 212 (codes "w")) End))

-- `(cellRef t (libraryRef w))`, at byte 189
abbrev pub empty_path_189 : Placed
empty_path_189 = Form' 189 (More (Word' 190 (codes "cellRef")) (More (Word' 198 (codes "t")) (More empty_path_200 End)))

-- `(path)`, at byte 237
abbrev pub empty_path_237 : Placed
empty_path_237 = Form' 237 (More (Word' 238 (codes "path")) End)

-- `(integer 1)`, at byte 256
abbrev pub empty_path_256 : Placed
empty_path_256 = Form' 256 (More (Word' 257 (codes "integer")) (More (Integer' 265 (pos 1)) End))

-- `(property K (integer 1))`, at byte 244
abbrev pub empty_path_244 : Placed
empty_path_244 = Form' 244 (More (Word' 245 (codes "property")) (More (Word' 254 (codes "K")) (More empty_path_256 End)))

-- `(userData netdb_note (path) (property K (integer 1)))`, at byte 216
abbrev pub empty_path_216 : Placed
empty_path_216 = Form' 216 (More (Word' 217 (codes "userData")) (More (Word' 226 (codes "netdb_note")) (More empty_path_237 (More empty_path_244 End))))

-- the `design` `d`, with its `cellRef`, `userData`, at byte 179
abbrev pub empty_path_179 : Placed
empty_path_179 = Form' 179 (More (Word' 180 (codes "design")) (More (Word' 187 (codes "d")) (More empty_path_189 (More empty_path_216 End))))

-- the file `(edif e (edifVersion 2 0 0) (edifLevel 0) (keywordMap (keywordLevel 0)) (library w (edifLevel 0) (technology) (cell t (cellType GENERIC) (view v (viewType NETLIST) (interface)))) (design d (cellRef t (libraryRef w)) (userData netdb_note (path) (property K (integer 1)))))`
abbrev pub empty_path : Placed
empty_path = Form' 0 (More (Word' 1 (codes "edif")) (More (Word' 6 (codes "e")) (More bad_level_8 (More bad_version_28 (More bad_version_42 (More empty_path_72 (More empty_path_179 End)))))))

-- `(cell c (cellType GENERIC))`, at byte 110
abbrev pub no_view_110 : Placed
no_view_110 = Form' 110 (More (Word' 111 (codes "cell")) (More (Word' 116 (codes "c")) (More other_view_type_118 End)))

-- `(library w (edifLevel 0) (technology) (cell c (cellType GENERIC)))`, at byte 72
abbrev pub no_view_72 : Placed
no_view_72 = Form' 72 (More (Word' 73 (codes "library")) (More (Word' 81 (codes "w")) (More two_libraries_83 (More two_libraries_97 (More no_view_110 End)))))

-- the file `(edif e (edifVersion 2 0 0) (edifLevel 0) (keywordMap (keywordLevel 0)) (library w (edifLevel 0) (technology) (cell c (cellType GENERIC))))`
abbrev pub no_view : Placed
no_view = Form' 0 (More (Word' 1 (codes "edif")) (More (Word' 6 (codes "e")) (More bad_level_8 (More bad_version_28 (More bad_version_42 (More no_view_72 End))))))

-- `(member d 4)`, at byte 266
abbrev pub high_index_266 : Placed
high_index_266 = Form' 266 (More (Word' 267 (codes "member")) (More (Word' 274 (codes "d")) (More (Integer' 276 (pos 4)) End)))

-- `(portRef (member d 4))`, at byte 257
abbrev pub high_index_257 : Placed
high_index_257 = Form' 257 (More (Word' 258 (codes "portRef")) (More high_index_266 End))

-- `(joined (portRef (member d 4)))`, at byte 249
abbrev pub high_index_249 : Placed
high_index_249 = Form' 249 (More (Word' 250 (codes "joined")) (More high_index_257 End))

-- `(net n (joined (portRef (member d 4))))`, at byte 242
abbrev pub high_index_242 : Placed
high_index_242 = Form' 242 (More (Word' 243 (codes "net")) (More (Word' 247 (codes "n")) (More high_index_249 End)))

-- `(contents (net n (joined (portRef (member d 4)))))`, at byte 232
abbrev pub high_index_232 : Placed
high_index_232 = Form' 232 (More (Word' 233 (codes "contents")) (More high_index_242 End))

-- the `view` `v`, with its `viewType`, `interface`, `contents`, at byte 137
abbrev pub high_index_137 : Placed
high_index_137 = Form' 137 (More (Word' 138 (codes "view")) (More (Word' 143 (codes "v")) (More two_views_145 (More whole_array_164 (More high_index_232 End)))))

-- the `cell` `c`, with its `cellType`, `view`, at byte 110
abbrev pub high_index_110 : Placed
high_index_110 = Form' 110 (More (Word' 111 (codes "cell")) (More (Word' 116 (codes "c")) (More other_view_type_118 (More high_index_137 End))))

-- the `library` `w`, with its `edifLevel`, `technology`, `cell`, at byte 72
abbrev pub high_index_72 : Placed
high_index_72 = Form' 72 (More (Word' 73 (codes "library")) (More (Word' 81 (codes "w")) (More two_libraries_83 (More two_libraries_97 (More high_index_110 End)))))

-- the file `(edif e (edifVersion 2 0 0) (edifLevel 0) (keywordMap (keywordLevel 0)) (library w (edifLevel 0) (technology) (cell c (cellType GENERIC) (view v (viewType NETLIST) (interface (port (array (rename d "d[3:0]") 4) (direction OUTPUT))) (contents (net n (joined (portRef (member d 4)))))))))`
abbrev pub high_index : Placed
high_index = Form' 0 (More (Word' 1 (codes "edif")) (More (Word' 6 (codes "e")) (More bad_level_8 (More bad_version_28 (More bad_version_42 (More high_index_72 End))))))

-- the digit of a number from 0 to 9
abbrev pub digit : ℕ → ℕ
digit n = 48 + n

-- a letter and the four digits of a number below 10,000
abbrev pub numbered_name : ℕ → ℕ → List ℕ
numbered_name letter n = letter ∷ digit (n / 1000) ∷ digit (n / 100 % 10) ∷ digit (n / 10 % 10) ∷ digit (n % 10) ∷ []

-- `(library L0000 (edifLevel 0) (technology))` with the number in its name, at this byte
abbrev pub library_at : ℕ → ℕ → Placed
library_at n at = Form' at
    (More (Word' (at + 1) (codes "library"))
    (More (Word' (at + 9) (numbered_name 76 n))
    (More (Form' (at + 15) (More (Word' (at + 16) (codes "edifLevel")) (More (Integer' (at + 26) (pos 0)) End)))
    (More (Form' (at + 29) (More (Word' (at + 30) (codes "technology")) End)) End))))

-- the library of this number where all are written one after another: 43 bytes each, the first at byte 72
abbrev pub numbered_library : ℕ → Placed
numbered_library n = library_at n (72 + 43 * n)

-- so many libraries from this number on
abbrev pub numbered_libraries : ℕ → ℕ → List Placed
numbered_libraries n zero = []
numbered_libraries n (suc count) = numbered_library n ∷ numbered_libraries (suc n) count

-- the file `(edif e (edifVersion 2 0 0) (edifLevel 0) (keywordMap (keywordLevel 0)) (library L0000 ..) (library L0001 ..) ..)` with so many
-- libraries
abbrev pub many_libraries : ℕ → Placed
many_libraries count = Form' 0 (More (Word' 1 (codes "edif")) (More (Word' 6 (codes "e")) (More bad_level_8 (More bad_version_28 (More bad_version_42 (trees (numbered_libraries 0 count)))))))

-- `(port (array P0000 65536))` with the number in its name, at this byte
abbrev pub array_at : ℕ → ℕ → Placed
array_at n at = Form' at (More (Word' (at + 1) (codes "port")) (More (Form' (at + 6) (More (Word' (at + 7) (codes "array")) (More (Word' (at + 13) (numbered_name 80 n)) (More (Integer' (at + 19) (pos 65536)) End)))) End))

-- the port of this number where all are written one after another: 27 bytes each, the first at byte 175
abbrev pub numbered_port : ℕ → Placed
numbered_port n = array_at n (175 + 27 * n)

-- so many ports from this number on
abbrev pub numbered_ports : ℕ → ℕ → List Placed
numbered_ports n zero = []
numbered_ports n (suc count) = numbered_port n ∷ numbered_ports (suc n) count

-- `(interface (port (array P0000 65536)) (port (array P0001 65536)) ..)` with so many ports, at byte 164
abbrev pub many_bits_164 : ℕ → Placed
many_bits_164 count = Form' 164 (More (Word' 165 (codes "interface")) (trees (numbered_ports 0 count)))

-- the `view` `v`, with its `viewType` and that interface, at byte 137
abbrev pub many_bits_137 : ℕ → Placed
many_bits_137 count = Form' 137 (More (Word' 138 (codes "view")) (More (Word' 143 (codes "v")) (More two_views_145 (More (many_bits_164 count) End))))

-- the `cell` `c`, with its `cellType` and that view, at byte 110
abbrev pub many_bits_110 : ℕ → Placed
many_bits_110 count = Form' 110 (More (Word' 111 (codes "cell")) (More (Word' 116 (codes "c")) (More other_view_type_118 (More (many_bits_137 count) End))))

-- the `library` `w`, with its `edifLevel`, `technology` and that cell, at byte 72
abbrev pub many_bits_72 : ℕ → Placed
many_bits_72 count = Form' 72 (More (Word' 73 (codes "library")) (More (Word' 81 (codes "w")) (More two_libraries_83 (More two_libraries_97 (More (many_bits_110 count) End)))))

-- the file of one leaf cell with so many ports of 65,536 bits each
abbrev pub many_bits : ℕ → Placed
many_bits count = Form' 0 (More (Word' 1 (codes "edif")) (More (Word' 6 (codes "e")) (More bad_level_8 (More bad_version_28 (More bad_version_42 (More (many_bits_72 count) End))))))
